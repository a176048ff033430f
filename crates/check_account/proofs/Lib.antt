pub mod RunFacts

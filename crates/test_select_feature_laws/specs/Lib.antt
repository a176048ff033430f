pub mod Demands
pub mod RecordGraphs
pub mod Rules
pub mod DemandSeams
pub mod EdgeSeams
pub mod Verdicts
pub mod Laws

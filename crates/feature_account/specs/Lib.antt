pub mod Accounts
pub mod Explanations
pub mod Laws
pub mod VerdictTexts

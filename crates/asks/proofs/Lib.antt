-- A list and a query in one call: the refusals of two texts, what the parts say, what the contract fixes, shuts out and gives.
pub mod ScanLaws
pub mod CauseLaws
pub mod AskLaws
pub mod Asks
pub mod Determined
pub mod Refuted

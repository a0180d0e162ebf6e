pub mod Building
pub mod Circuit
pub mod CircuitLaws
pub mod IsCircuit
pub mod RowChanges
pub mod RowCosts
pub mod TableFlows

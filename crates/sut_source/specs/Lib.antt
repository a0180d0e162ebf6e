pub mod RowFile
pub mod RowRules
pub mod SourceFile
pub mod SourceText
pub mod LinedRows

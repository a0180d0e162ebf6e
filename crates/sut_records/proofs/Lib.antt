pub mod ListLemmas
pub mod FirstFaultLemmas
pub mod FieldLemmas
pub mod RowTextLemmas
pub mod FieldTextLemmas
pub mod PlainText

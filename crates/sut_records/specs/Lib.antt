pub mod RecordList
pub mod FirstFault
pub mod RowText
pub mod Plain

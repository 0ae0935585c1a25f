pub mod Entry
pub mod Book
pub mod View
pub mod Lent
pub mod Right
pub mod Turn
pub mod Sound

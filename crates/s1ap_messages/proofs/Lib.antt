pub mod UsualBits
pub mod UsualNumbers
pub mod UsualValues
pub mod UsualErabs
pub mod UsualForm
pub mod UsualWrite

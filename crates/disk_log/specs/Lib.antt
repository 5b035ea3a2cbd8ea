pub mod Log
pub mod Opening
pub mod Record

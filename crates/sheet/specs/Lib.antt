-- What reading, the label calls and writing answer.
pub mod Read
pub mod Label
pub mod Write
pub mod RoundTrip

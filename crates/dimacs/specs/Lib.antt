pub mod Lists
pub mod Export
pub mod Reading
pub mod Made
pub mod Import
pub mod RoundTrip

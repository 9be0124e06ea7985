pub mod Events
pub mod EventLaws

pub mod RunsLaws
pub mod Table

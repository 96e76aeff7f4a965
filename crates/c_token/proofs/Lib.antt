pub mod BlankLaws
pub mod QuoteLaws
pub mod NumberLaws
pub mod FormLaws
pub mod PlaceLaws
pub mod ReadingLaws
pub mod FormedLaws
pub mod StandLaws

pub mod Views
pub mod Below
pub mod StmtViews
pub mod ItemViews

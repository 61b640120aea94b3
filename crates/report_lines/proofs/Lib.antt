pub mod LineLaws
pub mod ReportLaws

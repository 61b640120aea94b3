pub mod TotalLaws
pub mod CallLaws
pub mod RunLaws
pub mod AnswerLaws

pub mod RankLaws
pub mod OrderingLaws

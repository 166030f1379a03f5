pub mod AnsweredLiterals
pub mod ClauseTruth
pub mod DistinctLiterals
pub mod PlaceLaws
pub mod PremiseLaws
pub mod RuleLaws
pub mod SameLiterals

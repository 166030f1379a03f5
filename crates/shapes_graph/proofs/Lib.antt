pub mod ConstraintPlaces
pub mod KeptLaws
pub mod NamedShapes
pub mod NumberLaws
pub mod PathRowLaws
pub mod PathTableLaws
pub mod PlaceLaws
pub mod RowLaws

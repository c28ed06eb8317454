-- What the ranges say, place by place.
pub mod RangeLaws

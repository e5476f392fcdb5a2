pub mod Drawing
pub mod Names
pub mod Notes
pub mod Remarks
pub mod Row
pub mod Shapes
pub mod Svg

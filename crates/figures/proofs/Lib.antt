-- The laws of the figures: the twelve of a line, and what is seen of them one after another (FigureLaws), and that what is written of a figure is
-- read as that figure (Inverse).
pub mod FigureLaws
pub mod Inverse

pub mod HeadlineLaws

pub mod AnnotationText
pub mod ElementText
pub mod PartText

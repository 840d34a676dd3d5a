-- What the checks of a program say of it, and of which low-level program its C file is, passed on to those who call both.
pub use Rattle.rpy_checked.specs.Settles.{HasTypes, HasConflict, HasFault, IsRefused}
pub use Rattle.rpy_checked.specs.Words.{words_of}
pub use Rattle.rpy_checked.specs.declared.fault.CheckFault.{CheckFault}
pub use Rattle.rpy_checked.specs.declared.fault.CheckFault.TheVariants.{Conflict, Typing, NoMem}
pub use Rattle.ll_file.specs.File.{IsOfSome}

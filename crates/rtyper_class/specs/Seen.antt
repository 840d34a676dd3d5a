-- What is known around what is written, with the classes, as plain data.
use Rattle.std.specs.Prelude.{ℕ, Bool, List, Option}
use Rattle.ann_element.specs.declared.element.Element.{Element}
use Rattle.class_desc.specs.Tables.{Tables}
use Rattle.rtyper_layout.specs.declared.classes.Laid.{Laid}
use Rattle.rtyper_layout.specs.Types.{laid_in}
use Rattle.rtyper_data.specs.declared.body.Around.{Around as Parts}
use Rattle.rtyper_data.specs.Seen.{Around, the_around}

pub record World : Type 0 where
  pub around : Around
  pub classes : Tables
  pub made : List Bool
  pub attributes : List (ℕ × List ℕ × Element)
  pub first_vtable : ℕ
  pub first_exception : ℕ

abbrev pub the_world : Parts → World
the_world a = record {
  around = the_around a;
  classes = a.classes.now;
  made = a.made.now;
  attributes = a.attributes.now;
  first_vtable = a.first_vtable;
  first_exception = a.first_exception;
}

-- the structs of a class
abbrev pub laid : World → ℕ → Option Laid
laid world class = laid_in world.around.layout.classes class

-- New instances start as the law of them takes it.
use Rattle.std.proofs.Common.{◌≡◌, ℕ, List, length, Option, Some, None, sym, ap, ◌∙◌, subst, arith}
use Rattle.std.specs.Prelude.{slice_get, option_map}
use Rattle.std.specs.List.{flat_map}
use Rattle.rpy_meaning.specs.Classes.{named as meant_named, nearest, constants_of, first_attributes}
use Rattle.rpy_tree.specs.Value.{Value as Meant}
use Rattle.rpy_tree.specs.declared.program.Const.{Const}
use Rattle.class_desc.specs.Line.{above, constants_in, line, named}
use Rattle.class_desc.specs.Tables.{home as home_of, initial}
use Rattle.rtyper_layout.specs.declared.classes.Laid.{Laid}
use Rattle.rtyper_class.specs.Instances.{initial_of}
use Rattle.rtyper_class.specs.Seen.{World, laid}
use Rattle.object_laws.specs.Known.{Known, Standing}
use Rattle.class_laws.specs.Starting.{StartsAs}
use Rattle.layout_laws.specs.Knowing.{AreClasses}
use Rattle.layout_laws.specs.Layouts.{IsNumbered, KnowsAttributes}
use Rattle.layout_laws.specs.Starting.{AreConstants, ConstantsStand, InstancesStart}
use Rattle.layout_laws.proofs.Classes.{of_world, stands}
use Rattle.layout_laws.proofs.Constants.{meant_is, initial_is, made}
use Rattle.layout_laws.proofs.Facts.{Facts}
use Rattle.layout_laws.proofs.Knowing.{same_line}
use Rattle.layout_laws.proofs.Places.{same_some}
use Rattle.layout_laws.proofs.Starting.{attributes_are_known, bases_are_laid}

module _ (world : World) (known : Known) (value : Const → Meant) (class : ℕ) (counted : IsNumbered world) (knows : KnowsAttributes world known) (of : Facts world.classes.classes world.attributes world.around.layout)
    (are : AreClasses known.program.classes world.classes.classes) (constants : AreConstants value known.program.classes world.classes.classes) (stand : ConstantsStand world known value class) where
  -- a struct is that of one class
  own_one : (c d : ℕ) (l m : Laid) → laid world c ≡ Some l → laid world d ≡ Some m → l.own ≡ m.own → c ≡ d
  own_one c d l m h k same =
      let place : l.place ≡ m.place = omega (arith, same, of.own c l h, of.own d m k) in
      same_some (sym (of.order c l h) ∙ ap (slice_get world.around.layout.order) place ∙ of.order d m k)

  -- the nearest constant of a name
  abbrev constant : List ℕ → Option Const
  constant name = named name (flat_map (λ d. constants_in (slice_get world.classes.classes d)) (above world.classes.classes class))

  meant_starts : (name : List ℕ) → meant_named name (first_attributes known.program.classes class) ≡ option_map value (constant name)
  meant_starts name =
      ap (λ cs. meant_named name (nearest (flat_map (λ d. constants_of (slice_get known.program.classes d)) cs)))
      (same_line known.program.classes world.classes.classes are (length known.program.classes) (Some class) ∙ ap (λ n. line world.classes.classes n class) are.count)
      ∙ meant_is value known.program.classes world.classes.classes constants name (above world.classes.classes class)

  starts_as : (home : ℕ) (name : List ℕ) (s : Standing) → known.attribute class name ≡ Some s → (o : Option Const)
      → meant_named name (first_attributes known.program.classes class) ≡ option_map value o → initial_of (initial world.classes class) home name ≡ option_map (made world.classes class name) o
      → StartsAs world known s.element (meant_named name (first_attributes known.program.classes class)) (initial_of (initial world.classes class) home name)
  starts_as home name s k None e f =
      subst (λ v. StartsAs world known s.element v (initial_of (initial world.classes class) home name)) (sym e) (subst (λ i. StartsAs world known s.element None i) (sym f) tt)
  starts_as home name s k (Some c) e f =
      subst (λ v. StartsAs world known s.element v (initial_of (initial world.classes class) home name)) (sym e)
      (subst (λ i. StartsAs world known s.element (Some (value c)) i) (sym f) (λ found. stand home name s (made world.classes class name c) found k f))

  starts_with : (home : ℕ) (l : Laid) (name : List ℕ) (s : Standing) → laid world home ≡ Some l → known.attribute class name ≡ Some s → s.own ≡ l.own
      → StartsAs world known s.element (meant_named name (first_attributes known.program.classes class)) (initial_of (initial world.classes class) home name)
  starts_with home l name s h k own =
      let it = stands world known counted knows of class name s k in
      let same : it.home ≡ home = own_one it.home home it.m l it.is_laid h (ap (λ (x : Standing). x.own) it.is ∙ own) in
      let at : home_of world.classes class name ≡ Some home = it.at_home ∙ ap Some same in
      starts_as home name s k (constant name) (meant_starts name) (initial_is world.classes class home name at)

pub instances_start : InstancesStart
instances_start program annotation raises world known value class is counted knows declared are constants stand = record {
  bases = λ c b l h e. bases_are_laid program annotation raises world is counted c b l h e;
  listed = λ home l below h. attributes_are_known world known counted knows declared class home l below h;
  values = λ home l name s below h k own. starts_with world known value class counted knows (of_world program annotation raises world is counted) are constants stand home l name s h k own;
}

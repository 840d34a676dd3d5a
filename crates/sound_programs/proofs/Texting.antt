-- The program that texts are is whole, where what it names is there.
use Rattle.std.proofs.Common.{◌≡◌, ◌<◌, ℕ, zero, suc, true, List, [], ◌∷◌, ◌++◌, length, map, Option, Some, None, refl, sym, ap, ◌∙◌, arith}
use Rattle.std.specs.Prelude.{slice_get, zip, ◌==◌}
use Rattle.std.specs.List.{list_any}
use Rattle.rpy_tree.specs.declared.program.ClassInfo.{ClassInfo}
use Rattle.rpy_tree.specs.declared.program.Program.{Program}
use Rattle.rpy_meaning.specs.Classes.{base_of, line_of, is_below}
use Rattle.rpy_meaning.specs.Operations.{builtin_classes}
use Rattle.rpy_meaning.specs.Resolved.{class_by, builtin_names, class_names_from}
use Rattle.rpy_meaning.specs.Tree.{Class}
use Rattle.rpy_nodes.specs.declared.listing.Named.{Named}
use Rattle.rpy_names.specs.Place.{modules_of}
use Rattle.rpy_names.specs.Resolve.{prog}
use Rattle.rpy_front.specs.Modules.{AreModules}
use Rattle.rpy_resolved.specs.Count.{function_count}
use Rattle.resolved_laws.specs.Meant.{meant_by, further_of}
use Rattle.resolver_laws.specs.Listing.{HasNoInnerClasses}
use Rattle.flow_graph.specs.declared.graph.Graphs.{Graphs}
use Rattle.class_desc.specs.Line as line
use Rattle.program_laws.proofs.Asked.{flat, enough}
use Rattle.rpy_checked.specs.Settles.{IsSmall}
use Rattle.check_laws.specs.Trees.{HasTrees}
use Rattle.sound_programs.specs.Texts.{ProgramsOfTextsAreWhole}

module _ (p : Program) (count : length (meant_by p).classes ≡ length p.classes) where
  abbrev made : List (List ℕ) → List ClassInfo → List Class
  made names infos = map (λ (c : List ℕ × ClassInfo). class_by p (further_of p) c.0 c.1) (zip names infos)

  bases_in : (names : List (List ℕ)) (infos : List ClassInfo) → length (made names infos) ≡ length infos → (c : ℕ) → base_of (slice_get (made names infos) c) ≡ line.base_in (slice_get infos c)
  bases_in [] [] h c = refl
  bases_in [] (info ∷ infos) h c = absurd (omega (arith, h))
  bases_in (name ∷ names) [] h c = refl
  bases_in (name ∷ names) (info ∷ infos) h zero = refl
  bases_in (name ∷ names) (info ∷ infos) h (suc c) = bases_in names infos (omega (arith, h)) c

  same_line : (n : ℕ) (o : Option ℕ) → line_of (meant_by p).classes n o ≡ line.onward (line.line p.classes n) o
  same_line zero None = refl
  same_line zero (Some c) = refl
  same_line (suc n) None = refl
  same_line (suc n) (Some c) =
      ap (λ cs. c ∷ cs) (same_line n (base_of (slice_get (meant_by p).classes c))
      ∙ ap (line.onward (line.line p.classes n)) (bases_in (builtin_names ++ class_names_from p (further_of p) p.names p.modules) p.classes count c))

  same_below : (c d : ℕ) → is_below (meant_by p).classes c d ≡ line.is_below p.classes c d
  same_below c d = ap (list_any (λ e. e == d)) (same_line (length (meant_by p).classes) (Some c) ∙ ap (λ n. line.line p.classes n c) count)

pub texts_are_whole : ((sources names : List (List ℕ)) (modules : List Named) (p : Program) (gs : Graphs) → AreModules sources names modules → prog modules ≡ Some p → IsSmall p gs → HasTrees p gs)
    → ((sources names : List (List ℕ)) (ms : List Named) → AreModules sources names ms → HasNoInnerClasses (modules_of ms)) → ((ms : List Named) (p : Program) → prog ms ≡ Some p → length p.functions ≡ function_count p.modules)
    → ((ms : List Named) (p : Program) → prog ms ≡ Some p → (class : ℕ) → class < builtin_classes → is_below (meant_by p).classes class 0 ≡ true) → ProgramsOfTextsAreWhole
texts_are_whole trees inner functions below sources names modules p gs are is small a h =
    let t = trees sources names modules p gs are is small in
    record {
      tree = t.classes;
      site = t.sites;
      nodes = t.nodes;
      flat = flat modules p is (inner sources names modules are);
      functions = enough (function_count p.modules) (length p.functions) (functions modules p is);
      classes = h.classes;
      exceptions = λ c lt. sym (same_below p h.classes c 0) ∙ below modules p is c lt;
      plain = h.plain;
      constants = h.constants;
      defaults_there = h.defaults_there;
      meant = h.meant;
      contents = h.contents;
      keys = h.keys;
      takes = h.takes;
      there = h.there;
    }

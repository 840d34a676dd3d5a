-- The entry point of the code is that of the rules.
use Rattle.std.proofs.Common.{◌≡◌, ℕ, ◌+◌, codes, List, [], ◌∷◌, Bool, true, false, map, Option, Some, None, ap, ◌∙◌, refl, arith, cond}
use Rattle.std.specs.Prelude.{nat_eq, not, ◌&&◌}
use Rattle.std.specs.Str.{bytes_eq}
use Rattle.rpy_nodes.specs.Listing as listing
use Rattle.rpy_nodes.specs.Names.{number}
use Rattle.rpy_nodes.specs.declared.listing.Named.{Named}
use Rattle.names_rules.specs.Bindings.{Counts, none_before, count}
use Rattle.names_rules.specs.Entry.{EntryPoint, plain, parameter_of, entry_at, first_of, entry_from, entry}
use Rattle.names_rules.specs.Events.{Names}
use Rattle.names_rules.specs.Listed.{names_of, listed, says, parameter}
use Rattle.names_rules.specs.Members.{Formal, What, Import, From, Constant, Def, Class, Placed, members}
use Rattle.names_rules.proofs.Entry.{entry_word}
use Rattle.names_rules.proofs.Modules.{listing_is}
use Rattle.rpy_names.specs.Build as old
use Rattle.names_whole.specs.Whole.{as_entry}

module _ (names : Names) (word : (name : List ℕ) → nat_eq (number names name) 44 ≡ bytes_eq (codes "entry_point") name) where
  plain_is : (star : Bool) (ps : List Formal) → old.one_parameter star (map (parameter names) ps) ≡ plain star ps
  plain_is true ps = refl
  plain_is false [] = refl
  plain_is false (p ∷ []) = refl
  plain_is false (p ∷ q ∷ ps) = refl

  parameter_is : (w : What) → old.entry_in (says names w) ≡ parameter_of w
  parameter_is (Import of) = refl
  parameter_is (From path of) = refl
  parameter_is (Constant name v) = refl
  parameter_is (Def name ps star body) = λ j. cond (word name j) (plain_is star ps j) None
  parameter_is (Class name base) = refl

  at_is : (p : Placed) → old.entry_parameter (listed names p) ≡ entry_at p
  at_is p = ap (λ o. cond (nat_eq p.file 0 && not p.inside) o None) (parameter_is p.what)

  count_is : (w : What) (c : Counts) → c.functions + old.function_count (says names w) ≡ (count w c).functions
  count_is (Import of) c = omega arith
  count_is (From path of) c = omega arith
  count_is (Constant name v) c = omega arith
  count_is (Def name ps star body) c = refl
  count_is (Class name base) c = omega arith

  or_is : (o : Option ℕ) (function : ℕ) (rest : Option EntryPoint) → old.entry_or function o (as_entry rest) ≡ as_entry (first_of function o rest)
  or_is None function rest = refl
  or_is (Some p) function rest = refl

  from_is : (ps : List Placed) (c : Counts) → old.entry_from c.functions (map (listed names) ps) ≡ as_entry (entry_from c ps)
  from_is [] c = refl
  from_is (p ∷ ps) c =
      (λ j. old.entry_or c.functions (at_is p j) (old.entry_from (count_is p.what c j) (map (listed names) ps)))
      ∙ ap (old.entry_or c.functions (entry_at p)) (from_is ps (count p.what c))
      ∙ or_is (entry_at p) c.functions (entry_from (count p.what c) ps)

pub entry_is : (ms : List Named) → old.entry_of (listing.listing ms).units ≡ as_entry (entry (members ms))
entry_is ms = ap (λ l. old.entry_of l.units) (listing_is ms) ∙ from_is (names_of ms) (entry_word ms) (members ms) none_before

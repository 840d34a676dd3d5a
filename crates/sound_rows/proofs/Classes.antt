-- Classes as operations see them are those that rules are read from.
use Rattle.std.proofs.Common.{◌≡◌, ℕ, zero, suc, Bool, true, false, List, [], ◌∷◌, ◌++◌, length, Option, Some, None, refl, ap, ◌∙◌}
use Rattle.std.specs.Prelude.{◌==◌, slice_get, if◌then◌else◌}
use Rattle.std.specs.List.{list_any, flat_map}
use Rattle.std.specs.Str.{bytes_eq}
use Rattle.rpy_tree.specs.declared.program.ClassInfo.{ClassInfo}
use Rattle.rpy_tree.specs.Value.{Object}
use Rattle.rpy_meaning.specs.Tree.{Class, Program}
use Rattle.rpy_meaning.specs.Classes.{named, base_of, constants_of, methods_of, class_at, line_of, with_bases, is_below, method_of}
use Rattle.class_desc.specs.Line as line
use Rattle.ann_rules.specs.Program.{Whole}
use Rattle.sound_rows.specs.Seen.{values_of, SeenAt, Sees}

base_at : (sites : List (Option Object)) (o : Option ClassInfo) (c : Option Class) → SeenAt sites o c → base_of c ≡ line.base_in o
base_at sites None None h = refl
base_at sites None (Some class) h = absurd h
base_at sites (Some info) None h = absurd h
base_at sites (Some info) (Some class) h = h.base

methods_at : (sites : List (Option Object)) (o : Option ClassInfo) (c : Option Class) → SeenAt sites o c → methods_of c ≡ line.methods_in o
methods_at sites None None h = refl
methods_at sites None (Some class) h = absurd h
methods_at sites (Some info) None h = absurd h
methods_at sites (Some info) (Some class) h = h.methods

constants_at : (sites : List (Option Object)) (o : Option ClassInfo) (c : Option Class) → SeenAt sites o c → constants_of c ≡ values_of sites (line.constants_in o)
constants_at sites None None h = refl
constants_at sites None (Some class) h = absurd h
constants_at sites (Some info) None h = absurd h
constants_at sites (Some info) (Some class) h = h.constants

pub named_same : {A : Type 0} (name : List ℕ) (xs : List (List ℕ × A)) → named name xs ≡ line.named name xs
named_same name [] = refl
named_same name (x ∷ xs) = ap (λ o. if bytes_eq x.0 name then Some x.1 else o) (named_same name xs)

either_if : {A : Type 0} (b : Bool) (a : A) (o r : Option A) → (if b then Some a else line.either_of o r) ≡ line.either_of (if b then Some a else o) r
either_if true a o r = refl
either_if false a o r = refl

pub named_append : {A : Type 0} (name : List ℕ) (xs ys : List (List ℕ × A)) → line.named name (xs ++ ys) ≡ line.either_of (line.named name xs) (line.named name ys)
named_append name [] ys = refl
named_append name (x ∷ xs) ys =
    ap (λ o. if bytes_eq x.0 name then Some x.1 else o) (named_append name xs ys) ∙ either_if (bytes_eq x.0 name) x.1 (line.named name xs) (line.named name ys)

module _ (p : Whole) (q : Program) (sees : Sees p q) where
  same_line : (n : ℕ) (o : Option ℕ) → line_of q.classes n o ≡ line.onward (line.line p.tables.classes n) o
  same_line zero None = refl
  same_line zero (Some c) = refl
  same_line (suc n) None = refl
  same_line (suc n) (Some c) =
      ap (λ cs. c ∷ cs) (same_line n (base_of (slice_get q.classes c)) ∙ ap (line.onward (line.line p.tables.classes n)) (base_at q.sites (slice_get p.tables.classes c) (slice_get q.classes c) (sees.classes c)))

  pub same_bases : (c : ℕ) → with_bases q.classes c ≡ line.above p.tables.classes c
  same_bases c = same_line (length q.classes) (Some c) ∙ ap (λ n. line.line p.tables.classes n c) sees.count

  pub same_below : (c d : ℕ) → is_below q.classes c d ≡ line.is_below p.tables.classes c d
  same_below c d = ap (list_any (λ e. e == d)) (same_bases c)

  methods_in_line : (name : List ℕ) (cs : List ℕ) → line.named name (flat_map (λ d. methods_of (class_at q.classes d)) cs) ≡ line.nearest (line.own_method p.tables.classes name) cs
  methods_in_line name [] = refl
  methods_in_line name (c ∷ cs) =
      named_append name (methods_of (class_at q.classes c)) (flat_map (λ d. methods_of (class_at q.classes d)) cs)
      ∙ ap (λ ms. line.either_of (line.named name ms) (line.named name (flat_map (λ d. methods_of (class_at q.classes d)) cs))) (methods_at q.sites (slice_get p.tables.classes c) (slice_get q.classes c) (sees.classes c))
      ∙ ap (line.either_of (line.own_method p.tables.classes name c)) (methods_in_line name cs)

  pub same_method : (c : ℕ) (name : List ℕ) → method_of q.classes c name ≡ line.method p.tables.classes c name
  same_method c name =
      named_same name (flat_map (λ d. methods_of (class_at q.classes d)) (with_bases q.classes c))
      ∙ ap (λ cs. line.named name (flat_map (λ d. methods_of (class_at q.classes d)) cs)) (same_bases c)
      ∙ methods_in_line name (line.above p.tables.classes c)

  pub same_constants : (c : ℕ) → constants_of (class_at q.classes c) ≡ values_of q.sites (line.constants_in (slice_get p.tables.classes c))
  same_constants c = constants_at q.sites (slice_get p.tables.classes c) (slice_get q.classes c) (sees.classes c)

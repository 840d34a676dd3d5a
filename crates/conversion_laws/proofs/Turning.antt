-- What is written for a conversion from one type to another.
use Rattle.std.proofs.Common.{◌≡◌, ℕ, ◌+◌, ◌==◌, ◌&&◌, Bool, true, false, List, [], ◌∷◌, ◌++◌, length, Some, refl, sym, ap, ◌∙◌, subst, arith}
use Rattle.std.specs.Prelude.{if◌then◌else◌}
use Rattle.std.proofs.lemmas.Bool.Decides.{nat_tests}
use Rattle.std.proofs.lemmas.List.{append-nil}
use Rattle.csub_tree.specs.declared.tree.COperand.{COperand}
use Rattle.csub_tree.specs.declared.tree.COperand.TheVariants.{Var, Const}
use Rattle.ll_code.specs.declared.program.LlType.{LlType}
use Rattle.ll_code.specs.declared.program.LlType.TheVariants as type
use Rattle.ll_code.specs.declared.program.LlOp.{LlOp}
use Rattle.ll_code.specs.declared.program.LlOp.TheVariants as op
use Rattle.ll_build.specs.declared.needs.Helper.TheVariants as helper
use Rattle.rtyper_layout.specs.declared.layout.Layout.{Layout}
use Rattle.rtyper_layout.specs.Layout.{is_tuple}
use Rattle.rtyper_data.specs.declared.found.Found.{Found}
use Rattle.rtyper_data.specs.declared.small.Small.TheVariants as small
use Rattle.rtyper_data.specs.Converting.{default_operand, converted, value_as, helped, by_small}
use Rattle.rtyper_data.specs.Finding.{same_type, helper_number, small_number}
use Rattle.rtyper_data.specs.Seen.{Writing, writing}
use Rattle.lower_laws.specs.Asked.{Help, Make, all_asked}
use Rattle.lower_laws.specs.Values.{IsBelow}
use Rattle.lower_laws.proofs.Doing.{same_type_is}
use Rattle.conversion_laws.specs.Asked.{asked_by, asks_for}

-- ---- types

pub same_is : (s t : LlType) → same_type s t ≡ true → s ≡ t
same_is type.Signed type.Signed h = refl
same_is type.Char type.Char h = refl
same_is type.Bool type.Bool h = refl
same_is type.Void type.Void h = refl
same_is type.Fn type.Fn h = refl
same_is (type.Ptr m) (type.Ptr n) h = (let q : m ≡ n = grind (arith, nat_tests, h) in ap type.Ptr q)
same_is _ _ h = absurd (cc)

pub zero_is : (n : ℕ) → (n == 0) ≡ true → n ≡ 0
zero_is n h = grind (arith, nat_tests, h)

pub both_true : (a b : Bool) → (a && b) ≡ true → (a ≡ true) × (b ≡ true)
both_true true true h = (refl, refl)
both_true true false h = absurd (cc)
both_true false b h = absurd (cc)

-- ---- the four ways

-- the operand is given as it is; the default is; a byte is made a string; or a tuple is made one of another struct
pub data Turn (layout : Layout) : LlType → LlType → Type 0 where
  Same : {t : LlType} → Turn layout t t
  Default : {s t : LlType} → same_type s t ≡ false → ((x : COperand) (w : Writing) → converted layout x s t w ≡ (default_operand t, w)) → asked_by layout s t ≡ [] → Turn layout s t
  Texts : Turn layout type.Char (type.Ptr 0)
  Casts : (m n : ℕ) → same_type (type.Ptr m) (type.Ptr n) ≡ false → is_tuple layout m ≡ true → is_tuple layout n ≡ true → Turn layout (type.Ptr m) (type.Ptr n)

module _ (layout : Layout) where
  text_turn : (n : ℕ) (c : Bool) → (n == 0) ≡ c → Turn layout type.Char (type.Ptr n)
  text_turn n true h = subst (λ n. Turn layout type.Char (type.Ptr n)) (sym (zero_is n h)) Texts
  text_turn n false h = Default refl (λ x w. ap (λ c. if c then helped helper.StrOfChar (type.Ptr n) (x ∷ []) w else (default_operand (type.Ptr n), w)) h) (ap (λ c. if c then Help helper.StrOfChar ∷ [] else []) h)

  cast_turn : (m n : ℕ) (c : Bool) → same_type (type.Ptr m) (type.Ptr n) ≡ false → (is_tuple layout m && is_tuple layout n) ≡ c → Turn layout (type.Ptr m) (type.Ptr n)
  cast_turn m n true other h = (let b = both_true (is_tuple layout m) (is_tuple layout n) h in Casts m n other b.0 b.1)
  cast_turn m n false other h = Default other (λ x w. ap (λ c. if c then by_small (small.Cast m n) (type.Ptr n) (x ∷ []) w else (default_operand (type.Ptr n), w)) h) (ap (λ c. if c then Make (small.Cast m n) ∷ [] else []) h)

  other_turn : (s t : LlType) → same_type s t ≡ false → Turn layout s t
  other_turn type.Char (type.Ptr n) h = text_turn n (n == 0) refl
  other_turn (type.Ptr m) (type.Ptr n) h = cast_turn m n (is_tuple layout m && is_tuple layout n) h refl
  other_turn _ _ h = Default h (λ x w. refl) refl

  turn_by : (s t : LlType) (c : Bool) → same_type s t ≡ c → Turn layout s t
  turn_by s t true h = subst (λ t. Turn layout s t) (same_is s t h) Same
  turn_by s t false h = other_turn s t h

  pub turn : (s t : LlType) → Turn layout s t
  turn s t = turn_by s t (same_type s t) refl

-- nothing is written
nothing_more : (w : Writing) → w ≡ writing w.found (record { types = w.body.types ++ []; ops = w.body.ops ++ [] })
nothing_more w = ap (λ ts. writing w.found (record { types = ts; ops = w.body.ops })) (sym (append-nil w.body.types)) ∙ ap (λ os. writing w.found (record { types = w.body.types ++ []; ops = os })) (sym (append-nil w.body.ops))

-- a cast asks for its graph
pub cast_asked : (layout : Layout) (m n : ℕ) → same_type (type.Ptr m) (type.Ptr n) ≡ false → is_tuple layout m ≡ true → is_tuple layout n ≡ true → asks_for layout (type.Ptr m) (type.Ptr n) ≡ Make (small.Cast m n) ∷ []
cast_asked layout m n o i j =
    ap (λ c. if c then [] else asked_by layout (type.Ptr m) (type.Ptr n)) o
    ∙ ap (λ c. if c && is_tuple layout n then Make (small.Cast m n) ∷ [] else []) i
    ∙ ap (λ c. if c then Make (small.Cast m n) ∷ [] else []) j

-- ---- what is written

module _ {layout : Layout} where
  abbrev pub ops_of : {s t : LlType} → Turn layout s t → COperand → Writing → List LlOp
  ops_of Same x w = []
  ops_of (Default o c a) x w = []
  ops_of Texts x w = op.Call (Some (length w.body.types)) (helper_number helper.StrOfChar w.found).0 (x ∷ []) ∷ []
  ops_of (Casts m n o i j) x w = op.Call (Some (length w.body.types)) (small_number (small.Cast m n) w.found).0 (x ∷ []) ∷ []

  abbrev pub new_of : {s t : LlType} → Turn layout s t → List LlType
  new_of Same = []
  new_of (Default o c a) = []
  new_of Texts = type.Ptr 0 ∷ []
  new_of (Casts m n o i j) = type.Ptr n ∷ []

  abbrev pub operand_of : {s t : LlType} → Turn layout s t → COperand → Writing → COperand
  operand_of Same x w = x
  operand_of {t = t} (Default o c a) x w = default_operand t
  operand_of Texts x w = Var (length w.body.types)
  operand_of (Casts m n o i j) x w = Var (length w.body.types)

  abbrev pub found_of : {s t : LlType} → Turn layout s t → Writing → Found
  found_of Same w = w.found
  found_of (Default o c a) w = w.found
  found_of Texts w = (helper_number helper.StrOfChar w.found).1
  found_of (Casts m n o i j) w = (small_number (small.Cast m n) w.found).1

  abbrev pub left_by : {s t : LlType} → Turn layout s t → COperand → Writing → Writing
  left_by tn x w = writing (found_of tn w) (record { types = w.body.types ++ new_of tn; ops = w.body.ops ++ ops_of tn x w })

  pub value_is : {s t : LlType} (tn : Turn layout s t) (x : COperand) (w : Writing) → value_as layout x s t w ≡ (operand_of tn x w, left_by tn x w)
  unfolding value_as helped by_small
  value_is {t = t} Same x w = ap (λ c. if c then (x, w) else converted layout x t t w) (same_type_is t) ∙ ap (λ w. (x, w)) (nothing_more w)
  value_is {s = s} {t = t} (Default o c a) x w = ap (λ c. if c then (x, w) else converted layout x s t w) o ∙ c x w ∙ ap (λ w. (default_operand t, w)) (nothing_more w)
  value_is Texts x w = refl
  value_is (Casts m n o i j) x w =
      ap (λ c. if c then (x, w) else converted layout x (type.Ptr m) (type.Ptr n) w) o
      ∙ ap (λ c. if c && is_tuple layout n then by_small (small.Cast m n) (type.Ptr n) (x ∷ []) w else (default_operand (type.Ptr n), w)) i
      ∙ ap (λ c. if c then by_small (small.Cast m n) (type.Ptr n) (x ∷ []) w else (default_operand (type.Ptr n), w)) j

  pub asks_are : {s t : LlType} (tn : Turn layout s t) (w : Writing) → found_of tn w ≡ all_asked (asks_for layout s t) w.found
  asks_are {t = t} Same w = ap (λ c. all_asked (if c then [] else asked_by layout t t) w.found) (sym (same_type_is t))
  asks_are {s = s} {t = t} (Default o c a) w = sym (ap (λ c. all_asked (if c then [] else asked_by layout s t) w.found) o ∙ ap (λ asks. all_asked asks w.found) a)
  asks_are Texts w = refl
  asks_are (Casts m n o i j) w = sym (ap (λ asks. all_asked asks w.found) (cast_asked layout m n o i j))

  pub under : {s t : LlType} (tn : Turn layout s t) (x : COperand) (w : Writing) → IsBelow (length w.body.types) x → IsBelow (length w.body.types + length (new_of tn)) (operand_of tn x w)
  under Same (Var v) w h = omega (arith, h)
  under Same (Const c) w h = tt
  under (Default o c a) x w h = tt
  under Texts x w h = omega arith
  under (Casts m n o i j) x w h = omega arith

-- Methods stand in vtables where they are looked for.
use Rattle.std.proofs.Common.{◌≡◌, ◌<◌, inl, inr, ℕ, zero, suc, ◌+◌, pos, Bool, true, false, List, [], ◌∷◌, ◌++◌, length, Option, Some, None, refl, sym, ap, ◌∙◌, arith, append_assoc, length-append}
use Rattle.std.specs.Prelude.{◌^◌, slice_get, if◌then◌else◌}
use Rattle.std.specs.Str.{bytes_eq}
use Rattle.std.proofs.lemmas.Slice.Eq.{bytes_eq-Decides}
use Rattle.csub_tree.specs.State.{Value, Word, Fun}
use Rattle.csub_tree.specs.Layout.{constant}
use Rattle.csub_tree.specs.Statement.{read}
use Rattle.csub_tree.specs.declared.tree.CCell.{CCell}
use Rattle.csub_tree.specs.declared.tree.CConst.TheVariants as fixed
use Rattle.class_desc.specs.Line.{method}
use Rattle.rtyper_layout.specs.Families.{vtable_of}
use Rattle.rtyper_layout.specs.Types.{word}
use Rattle.rtyper_class.specs.Calls.{slot_from}
use Rattle.rtyper_class.specs.Seen.{World, laid}
use Rattle.rtyper_class.specs.Vtables.{function_if, function_cell, method_cells, names_of}
use Rattle.layout_laws.specs.Knowing.{values, vtable_known}
use Rattle.layout_laws.specs.Statics.{IsNamed, MethodsStand}
use Rattle.layout_laws.proofs.Cells.{value_first}
use Rattle.layout_laws.proofs.Places.{not_true}
use Rattle.layout_laws.proofs.Structs.{word_same}

read_behind : (xs ys : List Value) (x : Value) (n : ℕ) → length xs ≡ n → read (xs ++ x ∷ ys) n ≡ x
read_behind [] ys x zero h = refl
read_behind [] ys x (suc n) h = absurd (omega (arith, h))
read_behind (y ∷ xs) ys x zero h = absurd (omega (arith, h))
read_behind (y ∷ xs) ys x (suc n) h = read_behind xs ys x n (omega (arith, h))

module _ (world : World) (reached : List Bool) (class f number : ℕ) (name : List ℕ) (has : method world.classes.classes class name ≡ Some f) (is_reached : slice_get reached f ≡ Some true) (numbered : slice_get world.around.numbers f ≡ Some number) where
  -- each method is one value
  value_if : (o : Option Bool) (n : Option ℕ) (cells : List CCell) → (v : Value) × (values (function_if o n ∷ cells) ≡ v ∷ values cells)
  value_if None n cells = (constant fixed.Null, value_first fixed.Null cells)
  value_if (Some false) n cells = (constant fixed.Null, value_first fixed.Null cells)
  value_if (Some true) None cells = (constant fixed.Null, value_first fixed.Null cells)
  value_if (Some true) (Some f) cells = (constant (fixed.Fun f), value_first (fixed.Fun f) cells)

  value_of : (o : Option ℕ) (cells : List CCell) → (v : Value) × (values (function_cell world reached o ∷ cells) ≡ v ∷ values cells)
  value_of None cells = (constant fixed.Null, value_first fixed.Null cells)
  value_of (Some f) cells = value_if (slice_get reached f) (slice_get world.around.numbers f) cells

  the_value : (cells : List CCell) → values (function_cell world reached (method world.classes.classes class name) ∷ cells) ≡ Fun number ∷ values cells
  the_value cells =
      ap (λ o. values (function_cell world reached o ∷ cells)) has
      ∙ ap (λ o. values (function_if o (slice_get world.around.numbers f) ∷ cells)) is_reached
      ∙ ap (λ o. values (function_if (Some true) o ∷ cells)) numbered
      ∙ value_first (fixed.Fun number) cells

  not_here : (each : List ℕ) (names : List (List ℕ)) → (each ≡ name → ⊥) → IsNamed (each ∷ names) name → IsNamed names name
  not_here each names other (inl e) = absurd (other e)
  not_here each names other (inr rest) = rest

  stands_from : (n : ℕ) (names : List (List ℕ)) (before : List Value) → length before ≡ n → n + length names < 2 ^ 64 → IsNamed names name → read (before ++ values (method_cells world reached class names)) (slot_from n names name) ≡ Fun number
  stands_from n [] before long few named = absurd named
  stands_from n (each ∷ names) before long few named = by (λ other before long. stands_from (n + 1) names before long (omega (arith, few)) (not_here each names other named)) (bytes_eq each name) refl
    where
      rest : List Value
      rest = values (method_cells world reached class names)

      here : each ≡ name → read (before ++ values (method_cells world reached class (each ∷ names))) n ≡ Fun number
      here e =
          ap (λ k. read (before ++ values (function_cell world reached (method world.classes.classes class k) ∷ method_cells world reached class names)) n) e
          ∙ ap (λ vs. read (before ++ vs) n) (the_value (method_cells world reached class names))
          ∙ read_behind before rest (Fun number) n long

      further : (each ≡ name → ⊥) → ((before : List Value) → length before ≡ n + 1 → read (before ++ rest) (slot_from (n + 1) names name) ≡ Fun number) → read (before ++ values (method_cells world reached class (each ∷ names))) (slot_from (word (n + 1)) names name) ≡ Fun number
      further other go =
          let v = value_of (method world.classes.classes class each) (method_cells world reached class names) in
          ap (λ vs. read (before ++ vs) (slot_from (word (n + 1)) names name)) v.1
          ∙ ap (λ k. read (before ++ v.0 ∷ rest) (slot_from k names name)) (word_same (n + 1) (omega (arith, few)))
          ∙ ap (λ vs. read vs (slot_from (n + 1) names name)) (sym (append_assoc before (v.0 ∷ []) rest))
          ∙ go (before ++ v.0 ∷ []) (let z = length-append before (v.0 ∷ []) in omega (arith, z, long))

      by : ((each ≡ name → ⊥) → (before : List Value) → length before ≡ n + 1 → read (before ++ rest) (slot_from (n + 1) names name) ≡ Fun number) → (b : Bool) → bytes_eq each name ≡ b
          → read (before ++ values (method_cells world reached class (each ∷ names))) (if b then n else slot_from (word (n + 1)) names name) ≡ Fun number
      by go true e = here ((bytes_eq-Decides each name).0 e)
      by go false e = let other : each ≡ name → ⊥ = (λ h. not_true (sym e ∙ (bytes_eq-Decides each name).1 h)) in further other (go other)

pub methods_stand : MethodsStand
methods_stand world program reached class f number l name is named few has is_reached numbered =
    let start : Value = Word (pos (vtable_known world program reached class).number) in
    let kind : vtable_of (laid world class) ≡ l.vtable = ap vtable_of is in
    ap (λ k. read (start ∷ values (method_cells world reached class (names_of world k))) (slot_from 1 (names_of world l.vtable) name)) kind
    ∙ stands_from world reached class f number name has is_reached numbered 1 (names_of world l.vtable) (start ∷ []) refl (omega (arith, few)) named

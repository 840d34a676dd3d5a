-- The keys of a dict as they stand in an array, and the operations that compare them.
use Rattle.std.proofs.Common.{◌≡◌, ◌<◌, ℕ, zero, suc, ◌+◌, Bool, List, [], ◌∷◌, ◌++◌, length, map, Some, refl, arith}
use Rattle.std.specs.Prelude.{slice_get, slice_set}
use Rattle.ann_element.specs.declared.element.Element.{Element}
use Rattle.csub_tree.specs.State.{Value, Flag, Core}
use Rattle.csub_tree.specs.Statement.{read}
use Rattle.ll_code.specs.State.{Frame, At}
use Rattle.ll_code.specs.declared.program.LlOp.{LlOp}
use Rattle.ll_code.specs.declared.program.LlExit.{LlExit}
use Rattle.ll_code.specs.declared.program.LlProgram.{LlProgram}
use Rattle.ll_leads.specs.Path.{Leads}
use Rattle.rpy_tree.specs.Value.{Value as Meant}
use Rattle.rtyper_layout.specs.declared.layout.Layout.{Layout}
use Rattle.object_laws.specs.Ghost.{Ghost}
use Rattle.object_laws.specs.Known.{Known}
use Rattle.object_laws.specs.Values.{Holds, EachHolds, Empty, More}
use Rattle.std.specs.Prelude.{Option}

-- the key at a place, as it stands before the spare ones
pub record KeyAt (layout : Layout) (known : Known) (g : Ghost) (seen : Option Element) (f : Value → Value) (xs : List Value) (vs : List Meant) (i : ℕ) : Type 0 where
  pub value : Value
  pub meant : Meant
  pub is : slice_get vs i ≡ Some meant
  pub low : read xs i ≡ f value
  pub held : Holds layout known g seen value meant

pub key_at : {layout : Layout} {known : Known} {g : Ghost} {seen : Option Element} {xs : List Value} {vs : List Meant} (f : Value → Value) (spare : List Value) (i : ℕ) → EachHolds layout known g seen xs vs → i < length vs → KeyAt layout known g seen f (map f xs ++ spare) vs i
key_at f spare i Empty h = absurd (omega (arith, h))
key_at f spare zero (More {x = x} {v = v} held each) h = record { value = x; meant = v; is = refl; low = refl; held = held }
key_at f spare (suc i) (More held each) h = (let r = key_at f spare i each (omega (arith, h)) in record { value = r.value; meant = r.meant; is = r.is; low = r.low; held = r.held })

-- a variable with a stored key is compared with variable 1, and another variable gets the answer, over this memory
abbrev pub Tests : LlProgram → List (List ℕ) → Core → (ℕ → ℕ → LlOp) → Value → Value → Bool → Type 0
Tests p args core test x y same = (a r : ℕ) (ops : List LlOp) (e : LlExit) (waits : List Frame) (function block at : ℕ) (vars : List Value) → read vars a ≡ y → read vars 1 ≡ x
    → Leads p args 0 (At (test a r ∷ ops) e waits (record core { function = function; block = block; at = at; vars = vars })) [] (At ops e waits (record core { function = function; block = block; at = at + 1; vars = slice_set vars r (Flag same) }))

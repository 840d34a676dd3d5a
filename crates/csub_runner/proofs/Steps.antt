-- What the machine's methods leave, in words of the erased state.
use Rattle.std.proofs.Common.{◌≡◌, ℕ, ◌+◌, ◌++◌, List, [], ◌∷◌, length, zero, suc, set, map, replicate, sym, ap, ◌∙◌, Some, None, subst, rules, Bor}
use Rattle.std.specs.Prelude.{Option, IfSome, slice_get}
use Rattle.std.specs.Option.{option_copied}
use Rattle.std.specs.List.{All}
use Rattle.std.proofs.lemmas.List.Elements.{All-weaker, All-set, All-same, All-replicate, All-head, All-tail}
use Rattle.csub_tree.specs.State.{Unset, Null, Ptr as IsPtr, Core}
use Rattle.csub_runner.specs.Erased.{erase_all, erase_cells, erase_caller}
use Rattle.csub_runner.specs.Waiting.{Waiting}
use Rattle.csub_runner.specs.declared.heap.Heap.{Heap}
use Rattle.csub_runner.specs.declared.val.Cells.{Cells}
use Rattle.csub_runner.specs.declared.val.Ptr.{Ptr}
use Rattle.csub_runner.specs.declared.val.Val.{Val}
use Rattle.csub_runner.specs.declared.val.Val.TheVariants.{Unset as RawUnset, Null as RawNull, Ptr as RawPtr}
use Rattle.csub_runner.specs.declared.machine.Next.{Next}
use Rattle.csub_runner.specs.declared.machine.Next.TheVariants.{Made as NextMade}
use Rattle.csub_runner.specs.Heap.{IsSound, PtrOk, ValOk, CellsOk, blocks_of, find}
use Rattle.csub_runner.specs.Core.{AllOk, new_core}
use Rattle.csub_runner.proofs.Stands.{vals_kept, cells_kept, val_kept, same_some}
use Rattle.csub_runner.proofs.Blocks.{table_length, erased_unset, erased_set}

-- one of the elements that all have a property
pub got_all : {X : Type 0} (P : X → Type 0) (xs : List X) (i : ℕ) (x : X) → All P xs → slice_get xs i ≡ Some x → P x
got_all P [] i x ok e = absurd (cc)
got_all P (y ∷ xs) zero x ok e = subst P (same_some e) (All-head P y xs ok)
got_all P (y ∷ xs) (suc i) x ok e = got_all P xs i x (All-tail P y xs ok) e

pub if_got : {X : Type 0} (P : X → Type 0) (xs : List X) (i : ℕ) (o : Option (Bor X)) → All P xs → option_copied o ≡ slice_get xs i → IfSome o (λ x. P x.now)
if_got P xs i None ok e = tt
if_got P xs i (Some x) ok e = got_all P xs i x.now ok (sym e)

pub start_ok : (heap : Heap) (vars : List Val) (callers : List Waiting) (statics : List Cells) (n : ℕ) → IsSound heap → vars ≡ replicate n RawUnset → callers ≡ [] → All (CellsOk heap) statics
    → AllOk heap vars callers statics RawNull RawNull
start_ok heap vars callers statics n sound e none ok = record {
  sound = sound;
  vars_ok = All-same (ValOk heap) vars (replicate n RawUnset) e (All-replicate (ValOk heap) n RawUnset tt);
  callers_ok = All-same (λ w. All (ValOk heap) w.vars) callers [] none (search rules);
  statics_ok = ok;
  type_ok = tt;
  value_ok = tt;
}

pub start_is : (heap : Heap) (vars : List Val) (callers : List Waiting) (statics : List Cells) (function n steps : ℕ) → blocks_of heap ≡ [] → vars ≡ replicate n RawUnset → callers ≡ []
    → record { function = function; block = 0; at = 0; vars = erase_all vars; callers = map erase_caller callers; blocks = blocks_of heap; statics = map erase_cells statics; exc_type = Null; exc_value = Null; steps = steps }
    ≡ new_core function n (map erase_cells statics) steps
start_is heap vars callers statics function n steps b e none =
    ap (λ vs. record { function = function; block = 0; at = 0; vars = vs; callers = map erase_caller callers; blocks = blocks_of heap; statics = map erase_cells statics; exc_type = Null; exc_value = Null; steps = steps }) (ap erase_all e ∙ erased_unset n)
    ∙ ap (λ bs. record { function = function; block = 0; at = 0; vars = replicate n Unset; callers = map erase_caller callers; blocks = bs; statics = map erase_cells statics; exc_type = Null; exc_value = Null; steps = steps }) b
    ∙ ap (λ cs. record { function = function; block = 0; at = 0; vars = replicate n Unset; callers = map erase_caller cs; blocks = []; statics = map erase_cells statics; exc_type = Null; exc_value = Null; steps = steps }) none

pub heap_ok : (old new : Heap) (vars : List Val) (callers : List Waiting) (statics : List Cells) (t v : Val) → ((p : Ptr) → PtrOk old p → PtrOk new p) → IsSound new → AllOk old vars callers statics t v → AllOk new vars callers statics t v
heap_ok old new vars callers statics t v kept sound ok = record {
  sound = sound;
  vars_ok = vals_kept old new kept vars ok.vars_ok;
  callers_ok = All-weaker (λ w. All (ValOk old) w.vars) (λ w. All (ValOk new) w.vars) (λ w. vals_kept old new kept w.vars) callers ok.callers_ok;
  statics_ok = All-weaker (CellsOk old) (CellsOk new) (cells_kept old new kept) statics ok.statics_ok;
  type_ok = val_kept old new kept t ok.type_ok;
  value_ok = val_kept old new kept v ok.value_ok;
}

pub set_ok : (heap : Heap) (vars new : List Val) (callers : List Waiting) (statics : List Cells) (t v : Val) (a : ℕ) (x : Val) → ValOk heap x → new ≡ set vars a x → AllOk heap vars callers statics t v → AllOk heap new callers statics t v
set_ok heap vars new callers statics t v a x x_ok e ok = record {
  sound = ok.sound;
  vars_ok = All-same (ValOk heap) new (set vars a x) e (All-set (ValOk heap) vars a x x_ok ok.vars_ok);
  callers_ok = ok.callers_ok;
  statics_ok = ok.statics_ok;
  type_ok = ok.type_ok;
  value_ok = ok.value_ok;
}

-- a new block
pub made_is : (heap heap2 : Heap) (vars new : List Val) (core : Core) (a kind fields items cells number : ℕ) (ptr : Ptr) → core.vars ≡ erase_all vars → core.blocks ≡ blocks_of heap
    → number ≡ heap.made → ptr.number ≡ heap.made → cells ≡ fields + items → new ≡ set vars a (RawPtr ptr)
    → blocks_of heap2 ≡ blocks_of heap ++ Some (record { kind = kind; fields = replicate fields Unset; items = replicate items Unset }) ∷ []
    → (◌≡◌ {A = Next} (NextMade number kind cells) (NextMade (length (blocks_of heap)) kind (fields + items)))
    × (record core { at = core.at + 1; vars = erase_all new; blocks = blocks_of heap2 } ≡ record core {
      at = core.at + 1;
      vars = set core.vars a (IsPtr (length (blocks_of heap)));
      blocks = blocks_of heap ++ Some (record { kind = kind; fields = replicate fields Unset; items = replicate items Unset }) ∷ [];
    })
made_is heap heap2 vars new core a kind fields items cells number ptr vs bs is same sum e made =
    let len : length (blocks_of heap) ≡ heap.made = table_length (λ n. find n heap.slots.slots) 0 heap.made in (
      ap (λ n. NextMade n kind cells) (is ∙ sym len) ∙ ap (NextMade (length (blocks_of heap)) kind) sum,
      ap (λ xs. record core { at = core.at + 1; vars = xs; blocks = blocks_of heap2 })
          (ap erase_all e ∙ erased_set vars a (RawPtr ptr) ∙ ap (λ n. set (erase_all vars) a (IsPtr n)) (same ∙ sym len) ∙ ap (λ xs. set xs a (IsPtr (length (blocks_of heap)))) (sym vs))
          ∙ ap (λ xs. record core { at = core.at + 1; vars = set core.vars a (IsPtr (length (blocks_of heap))); blocks = xs }) made,
    )

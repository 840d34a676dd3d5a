-- Entries that are stored in dicts, and deleted.
use Rattle.std.proofs.Common.{◌≡◌, ℕ, Bool, true, false, List, [], ◌∷◌, ◌++◌, map, Some, refl, sym, ap, ◌∙◌, subst}
use Rattle.std.specs.Prelude.{slice_get, if◌then◌else◌}
use Rattle.flow_graph.specs.declared.graph.Graph.{Graph}
use Rattle.rpy_tree.specs.Value.{Value as Meant, Heap, Mapped, Nothing as Missing}
use Rattle.rpy_meaning.specs.declared.row.Covers.{Covers}
use Rattle.rpy_meaning.specs.declared.row.RowOp.{RowOp}
use Rattle.rpy_meaning.specs.declared.row.RowOp.TheVariants as row
use Rattle.rpy_meaning.specs.Operations.{op}
use Rattle.rpy_meaning.specs.World.{World}
use Rattle.rtyper_class.specs.Lowering.{other}
use Rattle.rtyper_data.specs.declared.small.Small.TheVariants as small
use Rattle.rtyper_layout.specs.Kinds.{kind_seen}
use Rattle.rtyper_program.specs.Raises.{is_covered}
use Rattle.rtyper_program.specs.Seen.{element_at, operand_of, place_of}
use Rattle.lower_laws.specs.Asked.{Make}
use Rattle.rtyped_runs.specs.Laws.{before}
use Rattle.typed_rows.specs.Programs.{Typed, setting, world}
use Rattle.typed_rows.specs.Rows.{lowered_in}
use Rattle.list_rows.proofs.Lists.{first_told, nothing_is}
use Rattle.list_rows.proofs.Operands.{Operand as Known, Takes, three, two}
use Rattle.list_rows.proofs.Throwing.{Only, Quiet, attribute_quiet, paying_quiet}
use Rattle.list_rows.proofs.Writing.{raising}
use Rattle.std.proofs.Common.{arith}
use Rattle.rpy_meaning.specs.Costs.{key_cost}
use Rattle.rpy_meaning.specs.Sequences.{delete_index as meant_delete, delete_object, has_key, store_index as meant_store, store_object, with_key, without_key}
use Rattle.rpy_meaning.specs.World.{no_key, set_object}
use Rattle.rtyper_data.specs.declared.small.Keyed.TheVariants as keyed
use Rattle.rtyper_op.specs.Lowering.{is_never, never_comes}
use Rattle.rtyper_program.specs.Raises.{first_kind, has_exceptions, raises_by}
use Rattle.object_laws.specs.Values.{of_dict}
use Rattle.dict_op_laws.specs.Dicts.{there_asks}
use Rattle.dict_change_laws.specs.Changed.{CanStore, KeysAreThere}
use Rattle.dict_change_laws.proofs.Deleting.{entries_are_deleted}
use Rattle.dict_change_laws.proofs.Setting.{values_are_stored}
use Rattle.run_laws.specs.Points.{container_of, is_dict_at}
use Rattle.rtyped_runs.specs.Conditions.{has_key_second}
use Rattle.rtyped_runs.specs.Laws.{of_changes}
use Rattle.rtyped_runs.proofs.Conditions.{conditions_hold}
use Rattle.list_rows.proofs.Throwing.{raised_only}
use Rattle.dict_rows.specs.Rows.{DeletionsAreWritten, StoresAreWritten}
use Rattle.dict_rows.proofs.Changing.{alter_both, changes_stand, there_alters}
use Rattle.dict_rows.proofs.Dicts.{IsMapped, comes, dicts_are_of, has_pair_of, of_three_mapped, of_two_mapped}
use Rattle.dict_rows.proofs.Finding.{key_of}
use Rattle.dict_rows.proofs.Looking.{at_mapped, attribute_raised, both_come, dict_raises, mapped_quiet, may_be_dict}
use Rattle.dict_rows.proofs.Writing.{by_dict_law, early, lowers}

store_takes : Takes 3 row.StoreIndex
store_takes t [] other = refl
store_takes t (a ∷ []) other = refl
store_takes t (a ∷ b ∷ []) other = refl
store_takes t (a ∷ b ∷ c ∷ []) other = absurd (other refl)
store_takes t (a ∷ b ∷ c ∷ d ∷ xs) other = refl

pub three_come : (t : Typed) (n : ℕ) (graph : Graph) (v u r : ℕ) (a : Known t n v) (b : Known t n u) (c : Known t n r) → is_never (operand_of (lowered_in t n graph) v ∷ operand_of (lowered_in t n graph) u ∷ operand_of (lowered_in t n graph) r ∷ []) ≡ false
three_come t n graph v u r a b c =
    ap (λ (q : Bool). if q then true else is_never (operand_of (lowered_in t n graph) u ∷ operand_of (lowered_in t n graph) r ∷ [])) (ap (λ e. never_comes (kind_seen e)) a.seen ∙ comes a.e a.some) ∙ both_come t n graph u r b c

store_quiet : (c : Covers) (heap : Heap) (x i y : Meant) → IsMapped heap x → Quiet (is_covered c) heap (meant_store c x i y)
store_quiet c heap x i y is = mapped_quiet (is_covered c) heap (λ (x : Meant). meant_store c x i y) x is (attribute_quiet c heap)
    (λ r pairs at. at_mapped (is_covered c) heap r pairs (store_object c r i y) at (paying_quiet (is_covered c) heap (if has_key i pairs then 0 else key_cost) (set_object r (Mapped (with_key i y pairs)) y) (λ w e. tt)))

pub stores_are_written : StoresAreWritten
stores_are_written t typed n graph o is_row is told w from to room =
    let it = three t n o row.StoreIndex is_row is store_takes (λ w a g node xs. refl) in
    let dict = dicts_are_of t typed n graph it.v it.a (first_told t n of_dict o it.v (it.u ∷ it.w ∷ []) it.a it.args_are told.0) in
    let l = lowered_in t n graph in
    let keys = told.1.0 it.v it.u dict.of.site dict.of.n dict.of.r dict.has.mapping (ap (λ (args : List ℕ). slice_get args 0) it.args_are) (ap (λ (args : List ℕ). slice_get args 1) it.args_are) (it.a.seen ∙ ap (λ e. Some e) dict.of.is) dict.of.typed dict.has.is in
    let stay = told.1.1 it.v it.w dict.has.key dict.has.value (ap (λ (args : List ℕ). slice_get args 0) it.args_are) (ap (λ (args : List ℕ). slice_get args 2) it.args_are) (has_pair_of t typed n graph it.v it.a dict) in
    by_dict_law t typed n graph o is w from to room of_changes (CanStore dict.has.mapping) 2 (there_asks (world t).around (operand_of l it.v) o.covered ++ Make (small.Keyed (keyed.Store dict.of.n)) ∷ []) row.StoreIndex (operand_of l it.v ∷ operand_of l it.u ∷ operand_of l it.w ∷ []) is_row (ap (map (operand_of l)) it.args_are)
    (λ late. changes_stand t typed (there_asks (world t).around (operand_of l it.v) o.covered ++ Make (small.Keyed (keyed.Store dict.of.n)) ∷ []) (before o w).found
    (alter_both t (there_asks (world t).around (operand_of l it.v) o.covered) (Make (small.Keyed (keyed.Store dict.of.n)) ∷ []) (there_alters t (world t).around (operand_of l it.v) o.covered) (key_of t dict.of.n dict.has.mapping dict.has.is keys.0, tt))
    (early t typed n graph o is w from to room) late)
    (lowers (world t) row.StoreIndex (place_of l o.result) (operand_of l it.v ∷ operand_of l it.u ∷ operand_of l it.w ∷ []) (before o w) (three_come t n graph it.v it.u it.w it.a it.b it.c) (may_be_dict (operand_of l it.v) dict.kind))
    (λ g core meant xs memory given. raised_only (has_exceptions t.known.annotation n o) (is_covered o.covered) (op t.seen.program o.covered row.StoreIndex xs meant) (raising t typed n graph o is row.StoreIndex is_row (λ k. refl))
    (of_three_mapped t typed n graph it.v (is_covered o.covered) (op t.seen.program o.covered row.StoreIndex) dict.kind it.u it.w (store_quiet o.covered) g core meant xs memory given))
    ((conditions_hold (setting t) l o).stores dict.has.mapping (ap has_key_second is_row) (ap (λ (q : RowOp). is_dict_at (setting t) n (container_of q o.args)) is_row ∙ ap (λ (args : List ℕ). is_dict_at (setting t) n (container_of row.StoreIndex args)) it.args_are ∙ dict.kind))
    (values_are_stored t.seen (world t).around (place_of l o.result) (operand_of l it.v) (operand_of l it.u) (operand_of l it.w) (before o w) dict.of.n dict.has.mapping dict.has.value (record { dict = dict.dict; keys = keys.0; stays = keys.1 })
    (record { value_is = dict.has.value_known; typed = dict.has.value_typed }) stay.0 stay.1)

-- ---- entries that are deleted

delete_takes : Takes 2 row.DeleteIndex
delete_takes t [] other = refl
delete_takes t (a ∷ []) other = refl
delete_takes t (a ∷ b ∷ []) other = absurd (other refl)
delete_takes t (a ∷ b ∷ c ∷ []) other = refl
delete_takes t (a ∷ b ∷ c ∷ d ∷ xs) other = refl

delete_quiet : (c : Covers) (heap : Heap) (x i : Meant) → IsMapped heap x → Quiet true heap (meant_delete c x i)
delete_quiet c heap x i is = mapped_quiet true heap (λ (x : Meant). meant_delete c x i) x is (attribute_raised c heap)
    (λ r pairs at. at_mapped true heap r pairs (delete_object c r i) at (λ w e. by r pairs w (has_key i pairs)))
  where
    by : (r : ℕ) (pairs : List (Meant × Meant)) (w : World) (b : Bool) → Only true ((if b then set_object r (Mapped (without_key i pairs)) Missing else no_key) w)
    by r pairs w true = tt
    by r pairs w false = (refl, omega arith)

pub deletions_are_written : DeletionsAreWritten
deletions_are_written t typed n graph o is_row is told w from to room =
    let it = two t n o row.DeleteIndex is_row is delete_takes (λ w a g node xs. refl) in
    let dict = dicts_are_of t typed n graph it.v it.a (first_told t n of_dict o it.v (it.u ∷ []) it.a it.args_are told.0) in
    let l = lowered_in t n graph in
    let keys = told.1.0 it.v it.u dict.of.site dict.of.n dict.of.r dict.has.mapping (ap (λ (args : List ℕ). slice_get args 0) it.args_are) (ap (λ (args : List ℕ). slice_get args 1) it.args_are) (it.a.seen ∙ ap (λ e. Some e) dict.of.is) dict.of.typed dict.has.is in
    let key = key_of t dict.of.n dict.has.mapping dict.has.is keys.0 in
    let raises : has_exceptions t.known.annotation n o ≡ true =
    ap (λ (q : RowOp). raises_by q (first_kind t.known.annotation n o.args) (is_covered o.covered)) is_row ∙ ap (λ (args : List ℕ). raises_by row.DeleteIndex (first_kind t.known.annotation n args) (is_covered o.covered)) it.args_are
    ∙ dict_raises (kind_seen (element_at t.known.annotation n it.v)) (is_covered o.covered) dict.kind in
    by_dict_law t typed n graph o is w from to room of_changes (KeysAreThere dict.has.mapping) 0 (there_asks (world t).around (operand_of l it.v) o.covered ++ Make (small.Keyed (keyed.Entry dict.of.n)) ∷ Make (small.Keyed (keyed.Remove dict.of.n)) ∷ []) row.DeleteIndex (operand_of l it.v ∷ operand_of l it.u ∷ []) is_row (ap (map (operand_of l)) it.args_are)
    (λ late. changes_stand t typed (there_asks (world t).around (operand_of l it.v) o.covered ++ Make (small.Keyed (keyed.Entry dict.of.n)) ∷ Make (small.Keyed (keyed.Remove dict.of.n)) ∷ []) (before o w).found
    (alter_both t (there_asks (world t).around (operand_of l it.v) o.covered) (Make (small.Keyed (keyed.Entry dict.of.n)) ∷ Make (small.Keyed (keyed.Remove dict.of.n)) ∷ []) (there_alters t (world t).around (operand_of l it.v) o.covered) (key, (key, tt)))
    (early t typed n graph o is w from to room) late)
    (lowers (world t) row.DeleteIndex (place_of l o.result) (operand_of l it.v ∷ operand_of l it.u ∷ []) (before o w) (both_come t n graph it.v it.u it.a it.b) (may_be_dict (operand_of l it.v) dict.kind))
    (λ g core meant xs memory given. subst (λ (b : Bool). Only b (op t.seen.program o.covered row.DeleteIndex xs meant)) (sym raises) (of_two_mapped t typed n graph it.v true (op t.seen.program o.covered row.DeleteIndex) dict.kind it.u (delete_quiet o.covered) g core meant xs memory given))
    ((conditions_hold (setting t) l o).deletions dict.has.mapping (ap has_key_second is_row) (ap (λ (q : RowOp). is_dict_at (setting t) n (container_of q o.args)) is_row ∙ ap (λ (args : List ℕ). is_dict_at (setting t) n (container_of row.DeleteIndex args)) it.args_are ∙ dict.kind))
    (entries_are_deleted t.seen (world t).around (place_of l o.result) (operand_of l it.v) (operand_of l it.u) (before o w) dict.of.n dict.has.mapping (record { dict = dict.dict; keys = keys.0; stays = keys.1 }) (nothing_is t n o.result told.1.1))

-- Values that are got, or others.
use Rattle.std.proofs.Common.{◌≡◌, ℕ, List, [], ◌∷◌, length, map, Some, refl, ap, ◌∙◌}
use Rattle.std.specs.Prelude.{slice_get, Option, codes}
use Rattle.ann_element.specs.declared.element.Element.{Element}
use Rattle.ann_lattice.specs.Shape.{shape}
use Rattle.rpy_tree.specs.Value.{Value as Meant, Heap}
use Rattle.rpy_meaning.specs.declared.row.Covers.{Covers}
use Rattle.rpy_meaning.specs.declared.row.RowOp.{RowOp}
use Rattle.rpy_meaning.specs.declared.row.RowOp.TheVariants as row
use Rattle.rpy_meaning.specs.Operations.{op}
use Rattle.rpy_meaning.specs.Tree.{Program}
use Rattle.rtyper_data.specs.declared.small.Small.TheVariants as small
use Rattle.rtyper_program.specs.Raises.{is_covered}
use Rattle.rtyper_program.specs.Seen.{operand_of, place_of}
use Rattle.lower_laws.specs.Asked.{Make}
use Rattle.rtyped_runs.specs.Laws.{before}
use Rattle.typed_rows.specs.Programs.{Typed, setting, world}
use Rattle.typed_rows.specs.Rows.{lowered_in}
use Rattle.list_rows.proofs.Lists.{first_told}
use Rattle.list_rows.proofs.Operands.{two_where}
use Rattle.list_rows.proofs.Throwing.{Quiet, attribute_quiet}
use Rattle.list_rows.proofs.Writing.{raising}
use Rattle.std.specs.Prelude.{suc}
use Rattle.rpy_meaning.specs.Operations.{object_method}
use Rattle.rtyper_data.specs.Seen.{type_at}
use Rattle.rtyper_data.specs.declared.small.Keyed.TheVariants as keyed
use Rattle.rtyper_program.specs.Raises.{has_exceptions}
use Rattle.object_laws.specs.Values.{of_dict}
use Rattle.dict_op_laws.specs.Dicts.{there_asks}
use Rattle.dict_find_laws.specs.Lookups.{SecondIsThere, get_asks}
use Rattle.dict_find_laws.proofs.GotElse.{values_are_got}
use Rattle.dict_find_laws.proofs.GotOrNone.{values_are_got_or_none}
use Rattle.run_laws.specs.Points.{container_of, is_dict_at}
use Rattle.rtyped_runs.specs.Conditions.{has_key_second}
use Rattle.rtyped_runs.specs.Laws.{of_lookups}
use Rattle.rtyped_runs.proofs.Conditions.{conditions_hold}
use Rattle.list_rows.proofs.Operands.{End, Next, Ops, operands_of, three_where}
use Rattle.list_rows.proofs.Throwing.{raised_only}
use Rattle.dict_rows.specs.Rows.{GetsAreWritten, GetsOrNoneAreWritten}
use Rattle.dict_rows.proofs.Dicts.{IsMapped, dicts_are_of, has_pair_of, of_three_mapped, of_two_mapped}
use Rattle.dict_rows.proofs.Finding.{key_of, look_both, lookups_stand, there_look}
use Rattle.dict_rows.proofs.Looking.{at_mapped, both_come, mapped_quiet}
use Rattle.dict_rows.proofs.Storing.{three_come}
use Rattle.dict_rows.proofs.Writing.{by_dict_law, early, lowers}

as_many : (t : Typed) (n : ℕ) (args : List ℕ) (es : List Element) → Ops t n args es → length (map shape es) ≡ length args
as_many t n _ _ End = refl
as_many t n _ _ (Next {vs = vs} {es = es} a more) = ap (λ (k : ℕ). suc k) (as_many t n vs es more)

two_quiet : (program : Program) (site : Option ℕ) (c : Covers) (heap : Heap) (x i : Meant) → IsMapped heap x → Quiet (is_covered c) heap (op program c (row.Method (codes "get") site) (x ∷ i ∷ []))
two_quiet program site c heap x i is = mapped_quiet (is_covered c) heap (λ (x : Meant). op program c (row.Method (codes "get") site) (x ∷ i ∷ [])) x is (attribute_quiet c heap)
    (λ r pairs at. at_mapped (is_covered c) heap r pairs (object_method program c (codes "get") r (i ∷ [])) at (λ w e. tt))

three_quiet : (program : Program) (site : Option ℕ) (c : Covers) (heap : Heap) (x i y : Meant) → IsMapped heap x → Quiet (is_covered c) heap (op program c (row.Method (codes "get") site) (x ∷ i ∷ y ∷ []))
three_quiet program site c heap x i y is = mapped_quiet (is_covered c) heap (λ (x : Meant). op program c (row.Method (codes "get") site) (x ∷ i ∷ y ∷ [])) x is (attribute_quiet c heap)
    (λ r pairs at. at_mapped (is_covered c) heap r pairs (object_method program c (codes "get") r (i ∷ y ∷ [])) at (λ w e. tt))

pub gets_are_written : GetsAreWritten
gets_are_written site t typed n graph o is_row is told w from to room =
    let it = three_where t n o (row.Method (codes "get") site) is_row is (λ other. absurd (other (as_many t n o.args is.elements (operands_of t n o is) ∙ told.0.1))) (λ w a g node xs. refl) in
    let dict = dicts_are_of t typed n graph it.v it.a (first_told t n of_dict o it.v (it.u ∷ it.w ∷ []) it.a it.args_are told.0.0) in
    let l = lowered_in t n graph in
    let keys = told.1.0 it.v it.u dict.of.site dict.of.n dict.of.r dict.has.mapping (ap (λ (args : List ℕ). slice_get args 0) it.args_are) (ap (λ (args : List ℕ). slice_get args 1) it.args_are) (it.a.seen ∙ ap (λ e. Some e) dict.of.is) dict.of.typed dict.has.is in
    let stay = told.1.1.0 it.v dict.has.key dict.has.value (ap (λ (args : List ℕ). slice_get args 0) it.args_are) (has_pair_of t typed n graph it.v it.a dict) in
    by_dict_law t typed n graph o is w from to room of_lookups (SecondIsThere dict.has.mapping) 0 (get_asks (world t).around (place_of l o.result) (operand_of l it.v) dict.of.n o.covered) (row.Method (codes "get") site) (operand_of l it.v ∷ operand_of l it.u ∷ operand_of l it.w ∷ []) is_row (ap (map (operand_of l)) it.args_are)
    (λ late. lookups_stand t typed (get_asks (world t).around (place_of l o.result) (operand_of l it.v) dict.of.n o.covered) (before o w).found
    (look_both t (there_asks (world t).around (operand_of l it.v) o.covered) (Make (small.Keyed (keyed.Get dict.of.n (type_at (world t).around (place_of l o.result)))) ∷ []) (there_look t (world t).around (operand_of l it.v) o.covered) (key_of t dict.of.n dict.has.mapping dict.has.is keys.0, tt))
    (early t typed n graph o is w from to room) late)
    (lowers (world t) (row.Method (codes "get") site) (place_of l o.result) (operand_of l it.v ∷ operand_of l it.u ∷ operand_of l it.w ∷ []) (before o w) (three_come t n graph it.v it.u it.w it.a it.b it.c) dict.kind)
    (λ g core meant xs memory given. raised_only (has_exceptions t.known.annotation n o) (is_covered o.covered) (op t.seen.program o.covered (row.Method (codes "get") site) xs meant) (raising t typed n graph o is (row.Method (codes "get") site) is_row (λ k. refl)) (of_three_mapped t typed n graph it.v (is_covered o.covered) (op t.seen.program o.covered (row.Method (codes "get") site)) dict.kind it.u it.w (three_quiet t.seen.program site o.covered) g core meant xs memory given))
    ((conditions_hold (setting t) l o).second_keys dict.has.mapping (ap has_key_second is_row) (ap (λ (q : RowOp). is_dict_at (setting t) n (container_of q o.args)) is_row ∙ ap (λ (args : List ℕ). is_dict_at (setting t) n (container_of (row.Method (codes "get") site) args)) it.args_are ∙ dict.kind))
    (values_are_got t.seen (world t).around (place_of l o.result) (operand_of l it.v) (operand_of l it.u) (operand_of l it.w) (before o w) site dict.of.n dict.has.mapping dict.has.value (record { dict = dict.dict; keys = keys.0; stays = keys.1 })
    (record { value_is = dict.has.value_known; typed = dict.has.value_typed }) stay (told.1.1.1 it.w (ap (λ (args : List ℕ). slice_get args 2) it.args_are)))

pub gets_or_none_are_written : GetsOrNoneAreWritten
gets_or_none_are_written site t typed n graph o is_row is told w from to room =
    let it = two_where t n o (row.Method (codes "get") site) is_row is (λ other. absurd (other (as_many t n o.args is.elements (operands_of t n o is) ∙ told.0.1))) (λ w a g node xs. refl) in
    let dict = dicts_are_of t typed n graph it.v it.a (first_told t n of_dict o it.v (it.u ∷ []) it.a it.args_are told.0.0) in
    let l = lowered_in t n graph in
    let keys = told.1.0 it.v it.u dict.of.site dict.of.n dict.of.r dict.has.mapping (ap (λ (args : List ℕ). slice_get args 0) it.args_are) (ap (λ (args : List ℕ). slice_get args 1) it.args_are) (it.a.seen ∙ ap (λ e. Some e) dict.of.is) dict.of.typed dict.has.is in
    let stay = told.1.1.0 it.v dict.has.key dict.has.value (ap (λ (args : List ℕ). slice_get args 0) it.args_are) (has_pair_of t typed n graph it.v it.a dict) in
    by_dict_law t typed n graph o is w from to room of_lookups (SecondIsThere dict.has.mapping) 0 (get_asks (world t).around (place_of l o.result) (operand_of l it.v) dict.of.n o.covered) (row.Method (codes "get") site) (operand_of l it.v ∷ operand_of l it.u ∷ []) is_row (ap (map (operand_of l)) it.args_are)
    (λ late. lookups_stand t typed (get_asks (world t).around (place_of l o.result) (operand_of l it.v) dict.of.n o.covered) (before o w).found
    (look_both t (there_asks (world t).around (operand_of l it.v) o.covered) (Make (small.Keyed (keyed.Get dict.of.n (type_at (world t).around (place_of l o.result)))) ∷ []) (there_look t (world t).around (operand_of l it.v) o.covered) (key_of t dict.of.n dict.has.mapping dict.has.is keys.0, tt))
    (early t typed n graph o is w from to room) late)
    (lowers (world t) (row.Method (codes "get") site) (place_of l o.result) (operand_of l it.v ∷ operand_of l it.u ∷ []) (before o w) (both_come t n graph it.v it.u it.a it.b) dict.kind)
    (λ g core meant xs memory given. raised_only (has_exceptions t.known.annotation n o) (is_covered o.covered) (op t.seen.program o.covered (row.Method (codes "get") site) xs meant) (raising t typed n graph o is (row.Method (codes "get") site) is_row (λ k. refl)) (of_two_mapped t typed n graph it.v (is_covered o.covered) (op t.seen.program o.covered (row.Method (codes "get") site)) dict.kind it.u (two_quiet t.seen.program site o.covered) g core meant xs memory given))
    ((conditions_hold (setting t) l o).second_keys dict.has.mapping (ap has_key_second is_row) (ap (λ (q : RowOp). is_dict_at (setting t) n (container_of q o.args)) is_row ∙ ap (λ (args : List ℕ). is_dict_at (setting t) n (container_of (row.Method (codes "get") site) args)) it.args_are ∙ dict.kind))
    (values_are_got_or_none t.seen (world t).around (place_of l o.result) (operand_of l it.v) (operand_of l it.u) (before o w) site dict.of.n dict.has.mapping dict.has.value (record { dict = dict.dict; keys = keys.0; stays = keys.1 })
    (record { value_is = dict.has.value_known; typed = dict.has.value_typed }) stay told.1.1.1)

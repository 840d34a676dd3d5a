-- Keys that are looked for in dicts.
use Rattle.std.proofs.Common.{◌≡◌, inl, inr, ℕ, Bool, true, false, List, [], ◌∷◌, ◌++◌, map, Some, None, refl, sym, ap, ◌∙◌, subst}
use Rattle.std.specs.Prelude.{slice_get, ◌||◌, Option, ℤ, if◌then◌else◌}
use Rattle.ann_lattice.specs.Row as rows
use Rattle.ann_lattice.specs.Shape.{Nothing, Shape, Truth, shape}
use Rattle.flow_graph.specs.declared.graph.Graph.{Graph}
use Rattle.rpy_tree.specs.Value.{Value as Meant, Text, Ref, Tuple, Heap, Mapped, Object, Nothing as Missing}
use Rattle.rpy_meaning.specs.declared.row.Covers.{Covers}
use Rattle.rpy_meaning.specs.declared.row.RowOp.{RowOp}
use Rattle.rpy_meaning.specs.declared.row.RowOp.TheVariants as row
use Rattle.rpy_meaning.specs.Operations.{op}
use Rattle.rpy_meaning.specs.Tree.{Program}
use Rattle.rpy_meaning.specs.World.{Op as Does, World}
use Rattle.rtyper_class.specs.Lowering.{other}
use Rattle.rtyper_data.specs.Seen.{Operand}
use Rattle.rtyper_data.specs.declared.small.Small.TheVariants as small
use Rattle.rtyper_layout.specs.declared.kind.Kind.{Kind}
use Rattle.rtyper_layout.specs.declared.kind.Kind.TheVariants as kind
use Rattle.rtyper_layout.specs.Kinds.{kind_seen}
use Rattle.rtyper_program.specs.Raises.{is_covered}
use Rattle.rtyper_program.specs.Seen.{element_at, operand_of, place_of}
use Rattle.lower_laws.specs.Asked.{Make}
use Rattle.rtyped_runs.specs.Laws.{before}
use Rattle.typed_rows.specs.Programs.{Typed, setting, world}
use Rattle.typed_rows.specs.Rows.{lowered_in}
use Rattle.list_rows.proofs.Fitting.{above_truths, row_fits}
use Rattle.list_rows.proofs.Lists.{first_told, second_told}
use Rattle.list_rows.proofs.Operands.{Above, Operand as Known, Takes, none, two}
use Rattle.list_rows.proofs.Shapes.{kind_at, no}
use Rattle.list_rows.proofs.Throwing.{Only, Quiet, attribute_quiet, if_some_quiet}
use Rattle.list_rows.proofs.Writing.{raising}
use Rattle.std.proofs.Common.{arith}
use Rattle.std.specs.Prelude.{not, option_map}
use Rattle.rpy_tree.specs.declared.syntax.CmpOp.TheVariants as cmp
use Rattle.rpy_meaning.specs.Operations.{within}
use Rattle.rpy_meaning.specs.Sequences.{index as meant_index, index_object, is_in_object, value_at}
use Rattle.rpy_meaning.specs.World.{at_object, attribute_error, flag_if_any, give, no_key}
use Rattle.rtyper_data.specs.declared.small.Keyed.TheVariants as keyed
use Rattle.rtyper_dict.specs.Operands.{is_dict_or_none, of_none as of_none_of_dicts}
use Rattle.rtyper_op.specs.Lowering.{is_never, never_comes}
use Rattle.rtyper_program.specs.Raises.{first_kind, has_exceptions, is_dict, raises_by}
use Rattle.object_laws.specs.Values.{of_dict}
use Rattle.dict_op_laws.specs.Dicts.{there_asks}
use Rattle.dict_find_laws.specs.Lookups.{FirstIsThere, SecondIsThere}
use Rattle.dict_find_laws.proofs.Read.{values_are_read}
use Rattle.dict_find_laws.proofs.Within.{not_within_is, within_is}
use Rattle.run_laws.specs.Points.{container_of, is_dict_at}
use Rattle.rtyped_runs.specs.Conditions.{has_key_first, has_key_second}
use Rattle.rtyped_runs.specs.Laws.{of_lookups}
use Rattle.rtyped_runs.proofs.Conditions.{conditions_hold}
use Rattle.list_rows.proofs.Throwing.{raised_only}
use Rattle.dict_rows.specs.Rows.{IndicesAreWritten, SearchesAreWritten}
use Rattle.dict_rows.proofs.Dicts.{IsMapped, comes, dicts_are_of, has_pair_of, of_two_mapped}
use Rattle.dict_rows.proofs.Finding.{key_of, look_both, lookups_stand, there_look}
use Rattle.dict_rows.proofs.Writing.{by_dict_law, early, lowers}

-- what may be a dict counts as one
pub may_be_dict : (a : Operand) → of_dict (kind_seen a.element) ≡ true → is_dict_or_none a ≡ true
may_be_dict a h = ap (λ (b : Bool). b || of_none_of_dicts (kind_seen a.element)) h

-- operands may come
pub both_come : (t : Typed) (n : ℕ) (graph : Graph) (v u : ℕ) (a : Known t n v) (b : Known t n u) → is_never (operand_of (lowered_in t n graph) v ∷ operand_of (lowered_in t n graph) u ∷ []) ≡ false
both_come t n graph v u a b =
    ap (λ (c : Bool). if c then true else is_never (operand_of (lowered_in t n graph) u ∷ [])) (ap (λ e. never_comes (kind_seen e)) a.seen ∙ comes a.e a.some)
    ∙ ap (λ (c : Bool). if c then true else false) (ap (λ e. never_comes (kind_seen e)) b.seen ∙ comes b.e b.some)

-- ---- whether a key has an entry

flag_quiet : (raises : Bool) (o : Option Bool) (w : World) → Only raises (flag_if_any o w)
flag_quiet raises None w = tt
flag_quiet raises (Some b) w = tt

within_quiet : (c : Covers) (f : Bool → Bool) (x y : Meant) (w : World) → Only (is_covered c) (within c f x y w)
within_quiet c f (Text part) (Text text) w = tt
within_quiet c f x (Ref r) w = flag_quiet (is_covered c) (option_map f (is_in_object x (slice_get w.heap r))) w
within_quiet c f x (Tuple vs) w = tt
within_quiet c f x Missing w = attribute_quiet c w.heap w refl
within_quiet c f x y w = tt

found_quiet : (program : Program) (c : Covers) (vs : List Meant) (w : World) → Only (is_covered c) (op program c (row.Compare cmp.Within) vs w)
found_quiet program c [] w = tt
found_quiet program c (x ∷ []) w = tt
found_quiet program c (x ∷ y ∷ []) w = within_quiet c (λ b. b) x y w
found_quiet program c (x ∷ y ∷ z ∷ vs) w = tt

missed_quiet : (program : Program) (c : Covers) (vs : List Meant) (w : World) → Only (is_covered c) (op program c (row.Compare cmp.NotWithin) vs w)
missed_quiet program c [] w = tt
missed_quiet program c (x ∷ []) w = tt
missed_quiet program c (x ∷ y ∷ []) w = within_quiet c not x y w
missed_quiet program c (x ∷ y ∷ z ∷ vs) w = tt

found_takes : Takes 2 (row.Compare cmp.Within)
found_takes t [] other = refl
found_takes t (a ∷ []) other = refl
found_takes t (a ∷ b ∷ []) other = absurd (other refl)
found_takes t (a ∷ b ∷ c ∷ []) other = refl
found_takes t (a ∷ b ∷ c ∷ d ∷ xs) other = refl

pub found_are_written : SearchesAreWritten cmp.Within
found_are_written t typed n graph o is_row is told w from to room =
    let it = two t n o (row.Compare cmp.Within) is_row is found_takes (λ w a g node xs. refl) in
    let dict = dicts_are_of t typed n graph it.u it.b (second_told t n of_dict o it.v it.u [] it.b it.args_are told.0) in
    let l = lowered_in t n graph in
    let m = dict.has.mapping in
    let fit : Above t (rows.within (shape it.a.e) (shape it.b.e) Nothing) (shape is.result) = (row_fits t.whole t.assigned n o.node (row.Compare cmp.Within) (shape it.a.e ∷ shape it.b.e ∷ []) (shape is.result) it.fits refl it.some).0 in
    let flag = above_truths t.whole.tables.classes t.assigned.same (shape is.result) (subst (λ (y : Shape). Above t (rows.within (shape it.a.e) y Nothing) (shape is.result)) dict.of.shape_is fit) it.fits.free in
    let keys = told.1 it.u it.v dict.of.site dict.of.n dict.of.r dict.has.mapping (ap (λ (args : List ℕ). slice_get args 1) it.args_are) (ap (λ (args : List ℕ). slice_get args 0) it.args_are) (it.b.seen ∙ ap (λ e. Some e) dict.of.is) dict.of.typed dict.has.is in
    by_dict_law t typed n graph o is w from to room of_lookups (FirstIsThere dict.has.mapping) 0 (there_asks (world t).around (operand_of l it.u) o.covered ++ Make (small.Keyed (keyed.Find dict.of.n)) ∷ []) (row.Compare cmp.Within) (operand_of l it.v ∷ operand_of l it.u ∷ []) is_row (ap (map (operand_of l)) it.args_are)
    (λ late. lookups_stand t typed (there_asks (world t).around (operand_of l it.u) o.covered ++ Make (small.Keyed (keyed.Find dict.of.n)) ∷ []) (before o w).found
    (look_both t (there_asks (world t).around (operand_of l it.u) o.covered) (Make (small.Keyed (keyed.Find dict.of.n)) ∷ []) (there_look t (world t).around (operand_of l it.u) o.covered) (key_of t dict.of.n dict.has.mapping dict.has.is keys.0, tt))
    (early t typed n graph o is w from to room) late)
    (lowers (world t) (row.Compare cmp.Within) (place_of l o.result) (operand_of l it.v ∷ operand_of l it.u ∷ []) (before o w) (both_come t n graph it.v it.u it.a it.b) (may_be_dict (operand_of l it.u) dict.kind))
    (λ g core meant xs memory given. raised_only (has_exceptions t.known.annotation n o) (is_covered o.covered) (op t.seen.program o.covered (row.Compare cmp.Within) xs meant) (raising t typed n graph o is (row.Compare cmp.Within) is_row (λ k. refl)) (found_quiet t.seen.program o.covered xs meant))
    ((conditions_hold (setting t) l o).first_keys dict.has.mapping (ap has_key_first is_row) (ap (λ (q : RowOp). is_dict_at (setting t) n (container_of q o.args)) is_row ∙ ap (λ (args : List ℕ). is_dict_at (setting t) n (container_of (row.Compare cmp.Within) args)) it.args_are ∙ dict.kind))
    (within_is t.seen (world t).around (place_of l o.result) (operand_of l it.v) (operand_of l it.u) (before o w) dict.of.n dict.has.mapping (record { dict = dict.dict; keys = keys.0; stays = keys.1 }) (ap kind_seen is.result_is ∙ kind_at is.result (Truth flag.0) flag.1))

missed_takes : Takes 2 (row.Compare cmp.NotWithin)
missed_takes t [] other = refl
missed_takes t (a ∷ []) other = refl
missed_takes t (a ∷ b ∷ []) other = absurd (other refl)
missed_takes t (a ∷ b ∷ c ∷ []) other = refl
missed_takes t (a ∷ b ∷ c ∷ d ∷ xs) other = refl

pub missed_are_written : SearchesAreWritten cmp.NotWithin
missed_are_written t typed n graph o is_row is told w from to room =
    let it = two t n o (row.Compare cmp.NotWithin) is_row is missed_takes (λ w a g node xs. refl) in
    let dict = dicts_are_of t typed n graph it.u it.b (second_told t n of_dict o it.v it.u [] it.b it.args_are told.0) in
    let l = lowered_in t n graph in
    let m = dict.has.mapping in
    let fit : Above t (rows.within (shape it.a.e) (shape it.b.e) Nothing) (shape is.result) = (row_fits t.whole t.assigned n o.node (row.Compare cmp.NotWithin) (shape it.a.e ∷ shape it.b.e ∷ []) (shape is.result) it.fits refl it.some).0 in
    let flag = above_truths t.whole.tables.classes t.assigned.same (shape is.result) (subst (λ (y : Shape). Above t (rows.within (shape it.a.e) y Nothing) (shape is.result)) dict.of.shape_is fit) it.fits.free in
    let keys = told.1 it.u it.v dict.of.site dict.of.n dict.of.r dict.has.mapping (ap (λ (args : List ℕ). slice_get args 1) it.args_are) (ap (λ (args : List ℕ). slice_get args 0) it.args_are) (it.b.seen ∙ ap (λ e. Some e) dict.of.is) dict.of.typed dict.has.is in
    by_dict_law t typed n graph o is w from to room of_lookups (FirstIsThere dict.has.mapping) 0 (there_asks (world t).around (operand_of l it.u) o.covered ++ Make (small.Keyed (keyed.Find dict.of.n)) ∷ []) (row.Compare cmp.NotWithin) (operand_of l it.v ∷ operand_of l it.u ∷ []) is_row (ap (map (operand_of l)) it.args_are)
    (λ late. lookups_stand t typed (there_asks (world t).around (operand_of l it.u) o.covered ++ Make (small.Keyed (keyed.Find dict.of.n)) ∷ []) (before o w).found
    (look_both t (there_asks (world t).around (operand_of l it.u) o.covered) (Make (small.Keyed (keyed.Find dict.of.n)) ∷ []) (there_look t (world t).around (operand_of l it.u) o.covered) (key_of t dict.of.n dict.has.mapping dict.has.is keys.0, tt))
    (early t typed n graph o is w from to room) late)
    (lowers (world t) (row.Compare cmp.NotWithin) (place_of l o.result) (operand_of l it.v ∷ operand_of l it.u ∷ []) (before o w) (both_come t n graph it.v it.u it.a it.b) (may_be_dict (operand_of l it.u) dict.kind))
    (λ g core meant xs memory given. raised_only (has_exceptions t.known.annotation n o) (is_covered o.covered) (op t.seen.program o.covered (row.Compare cmp.NotWithin) xs meant) (raising t typed n graph o is (row.Compare cmp.NotWithin) is_row (λ k. refl)) (missed_quiet t.seen.program o.covered xs meant))
    ((conditions_hold (setting t) l o).first_keys dict.has.mapping (ap has_key_first is_row) (ap (λ (q : RowOp). is_dict_at (setting t) n (container_of q o.args)) is_row ∙ ap (λ (args : List ℕ). is_dict_at (setting t) n (container_of (row.Compare cmp.NotWithin) args)) it.args_are ∙ dict.kind))
    (not_within_is t.seen (world t).around (place_of l o.result) (operand_of l it.v) (operand_of l it.u) (before o w) dict.of.n dict.has.mapping (record { dict = dict.dict; keys = keys.0; stays = keys.1 }) (ap kind_seen is.result_is ∙ kind_at is.result (Truth flag.0) flag.1))

-- ---- the value of a key

index_takes : (literal : Option ℤ) → Takes 2 (row.Index literal)
index_takes literal t [] other = refl
index_takes literal t (a ∷ []) other = refl
index_takes literal t (a ∷ b ∷ []) other = absurd (other refl)
index_takes literal t (a ∷ b ∷ c ∷ []) other = refl
index_takes literal t (a ∷ b ∷ c ∷ d ∷ xs) other = refl

pub dict_raises : (k : Kind) (b : Bool) → of_dict k ≡ true → (is_dict k || b) ≡ true
dict_raises kind.Dict b h = refl
dict_raises kind.MaybeDict b h = refl
dict_raises _ b h = no h

-- of a dict, or `None`
pub mapped_quiet : (raises : Bool) (heap : Heap) (f : Meant → Does) (x : Meant) → IsMapped heap x → Quiet raises heap (f Missing) → ((r : ℕ) (pairs : List (Meant × Meant)) → slice_get heap r ≡ Some (Mapped pairs) → Quiet raises heap (f (Ref r))) → Quiet raises heap (f x)
mapped_quiet raises heap f x (inl e) none some = subst (λ (y : Meant). Quiet raises heap (f y)) (sym e) none
mapped_quiet raises heap f x (inr it) none some = subst (λ (y : Meant). Quiet raises heap (f y)) (sym it.1.1.0) (some it.0 it.1.0 it.1.1.1)

pub at_mapped : (raises : Bool) (heap : Heap) (r : ℕ) (pairs : List (Meant × Meant)) (f : Option Object → Does) → slice_get heap r ≡ Some (Mapped pairs) → Quiet raises heap (f (Some (Mapped pairs))) → Quiet raises heap (at_object r f)
at_mapped raises heap r pairs f at h w e = subst (λ (o : Option Object). Only raises (f o w)) (sym (ap (λ (k : Heap). slice_get k r) e ∙ at)) (h w e)

pub attribute_raised : (c : Covers) (heap : Heap) → Quiet true heap (attribute_error c)
attribute_raised c heap w e = raised_only true (is_covered c) (attribute_error c w) (λ h. refl) (attribute_quiet c heap w e)

index_quiet_of : (c : Covers) (heap : Heap) (x i : Meant) → IsMapped heap x → Quiet true heap (meant_index c x i)
index_quiet_of c heap x i is = mapped_quiet true heap (λ (x : Meant). meant_index c x i) x is (attribute_raised c heap)
    (λ r pairs at. at_mapped true heap r pairs (index_object c i) at (if_some_quiet true heap no_key (value_at i pairs) give (λ w e. (refl, omega arith)) (λ v w e. tt)))

pub indices_are_written : IndicesAreWritten
indices_are_written literal t typed n graph o is_row is told w from to room =
    let it = two t n o (row.Index literal) is_row is (index_takes literal) (λ w a g node xs. refl) in
    let dict = dicts_are_of t typed n graph it.v it.a (first_told t n of_dict o it.v (it.u ∷ []) it.a it.args_are told.0) in
    let l = lowered_in t n graph in
    let keys = told.1.0 it.v it.u dict.of.site dict.of.n dict.of.r dict.has.mapping (ap (λ (args : List ℕ). slice_get args 0) it.args_are) (ap (λ (args : List ℕ). slice_get args 1) it.args_are) (it.a.seen ∙ ap (λ e. Some e) dict.of.is) dict.of.typed dict.has.is in
    let raises : has_exceptions t.known.annotation n o ≡ true =
    ap (λ (q : RowOp). raises_by q (first_kind t.known.annotation n o.args) (is_covered o.covered)) is_row ∙ ap (λ (args : List ℕ). raises_by (row.Index literal) (first_kind t.known.annotation n args) (is_covered o.covered)) it.args_are
    ∙ dict_raises (kind_seen (element_at t.known.annotation n it.v)) (is_covered o.covered) dict.kind in
    by_dict_law t typed n graph o is w from to room of_lookups (SecondIsThere dict.has.mapping) 0 (there_asks (world t).around (operand_of l it.v) o.covered ++ Make (small.Keyed (keyed.Entry dict.of.n)) ∷ Make (small.Keyed (keyed.Value dict.of.n)) ∷ []) (row.Index literal) (operand_of l it.v ∷ operand_of l it.u ∷ []) is_row (ap (map (operand_of l)) it.args_are)
    (λ late. lookups_stand t typed (there_asks (world t).around (operand_of l it.v) o.covered ++ Make (small.Keyed (keyed.Entry dict.of.n)) ∷ Make (small.Keyed (keyed.Value dict.of.n)) ∷ []) (before o w).found
    (look_both t (there_asks (world t).around (operand_of l it.v) o.covered) (Make (small.Keyed (keyed.Entry dict.of.n)) ∷ Make (small.Keyed (keyed.Value dict.of.n)) ∷ []) (there_look t (world t).around (operand_of l it.v) o.covered) (key_of t dict.of.n dict.has.mapping dict.has.is keys.0, (tt, tt)))
    (early t typed n graph o is w from to room) late)
    (lowers (world t) (row.Index literal) (place_of l o.result) (operand_of l it.v ∷ operand_of l it.u ∷ []) (before o w) (both_come t n graph it.v it.u it.a it.b) (may_be_dict (operand_of l it.v) dict.kind))
    (λ g core meant xs memory given. subst (λ (b : Bool). Only b (op t.seen.program o.covered (row.Index literal) xs meant)) (sym raises) (of_two_mapped t typed n graph it.v true (op t.seen.program o.covered (row.Index literal)) dict.kind it.u (index_quiet_of o.covered) g core meant xs memory given))
    ((conditions_hold (setting t) l o).second_keys dict.has.mapping (ap has_key_second is_row) (ap (λ (q : RowOp). is_dict_at (setting t) n (container_of q o.args)) is_row ∙ ap (λ (args : List ℕ). is_dict_at (setting t) n (container_of (row.Index literal) args)) it.args_are ∙ dict.kind))
    (values_are_read t.seen (world t).around (place_of l o.result) (operand_of l it.v) (operand_of l it.u) (before o w) literal dict.of.n dict.has.mapping dict.has.value (record { dict = dict.dict; keys = keys.0; stays = keys.1 })
    (record { value_is = dict.has.value_known; typed = dict.has.value_typed })
    (told.1.1 it.v dict.has.key dict.has.value (ap (λ (args : List ℕ). slice_get args 0) it.args_are) (has_pair_of t typed n graph it.v it.a dict)))

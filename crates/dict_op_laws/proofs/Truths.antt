-- Whether a dict counts as true.
use Rattle.std.proofs.Common.{◌≡◌, ◌<◌, ◌≤◌, ℕ, suc, ◌+◌, ◌||◌, ◌⊎◌, inl, inr, Bool, true, false, List, [], ◌∷◌, ◌++◌, length, Some, None, Ok, pos, refl, sym, ap, ◌∙◌, subst, arith, append_assoc}
use Rattle.std.specs.Prelude.{slice_get, not}
use Rattle.std.specs.Ordering.{int_eq}
use Rattle.std.proofs.lemmas.Bool.Decides.{nat_tests}
use Rattle.csub_tree.specs.State.{Value, Word, Flag, Null, Core}
use Rattle.csub_tree.specs.Operation.{is_unset, binary_of, unary_of}
use Rattle.csub_tree.specs.Statement.{operand}
use Rattle.csub_tree.specs.declared.tree.CBinary.TheVariants as binary
use Rattle.csub_tree.specs.declared.tree.CUnary.TheVariants as unary
use Rattle.csub_tree.specs.declared.tree.COperand.TheVariants.{Var}
use Rattle.rpy_tree.specs.Value.{Value as Meant}
use Rattle.rpy_meaning.specs.declared.row.Covers.{Covers}
use Rattle.rpy_meaning.specs.declared.row.RowOp.TheVariants as row
use Rattle.rpy_meaning.specs.Compare.{is_some_item, object_truth}
use Rattle.rpy_meaning.specs.Operations.{op as meant_op, opposite, truth_in}
use Rattle.rpy_meaning.specs.World.{World, flag_if_any}
use Rattle.ll_code.specs.State.{Frame, Calling, At}
use Rattle.ll_code.specs.declared.program.LlType.TheVariants as type
use Rattle.ll_code.specs.declared.program.LlOp.{LlOp}
use Rattle.ll_code.specs.declared.program.LlOp.TheVariants as op
use Rattle.ll_code.specs.declared.program.LlExit.{LlExit}
use Rattle.ll_code.specs.declared.program.LlProgram.{LlProgram}
use Rattle.ll_leads.proofs.Ways.{Comes, on, many, enter, gives, turns}
use Rattle.rtyper_layout.specs.declared.kind.Kind.{Kind}
use Rattle.rtyper_layout.specs.declared.kind.Kind.TheVariants as kind
use Rattle.rtyper_layout.specs.declared.dicts.Mapping.{Mapping}
use Rattle.rtyper_layout.specs.declared.layout.Layout.{Layout}
use Rattle.rtyper_layout.specs.Layout.{mapping_at}
use Rattle.rtyper_layout.specs.Kinds.{kind_seen}
use Rattle.rtyper_data.specs.declared.small.Keyed.TheVariants as keyed
use Rattle.rtyper_data.specs.declared.small.Small.TheVariants as small
use Rattle.rtyper_data.specs.Converting.{by_small}
use Rattle.rtyper_data.specs.Finding.{small_number}
use Rattle.rtyper_data.specs.Numbers.{give_unary}
use Rattle.rtyper_data.specs.Seen.{Around, Operand, Place, kind_of, type_of, type_at, Writing, writing}
use Rattle.rtyper_op.specs.Lowering.{never_comes, of_some, of_one}
use Rattle.rtyper_op.specs.Texts.{truth_of, truth_by, dict_truth, tested_to}
use Rattle.rtyper_list.specs.Lowering.{lowered as list_lowered, of_some as list_of_some, first_of_one, lower_list_op}
use Rattle.rtyper_dict.specs.Graphs.{dict_graph}
use Rattle.rtyper_dict.specs.Listing.{truth, truth_asks, truth_blocks, truth_counts}
use Rattle.rtyper_dict.specs.Operands.{of_dict}
use Rattle.rtyper_dict.specs.Parts.{dict_at, dict_or, shape_of}
use Rattle.lower_laws.specs.Asked.{Make}
use Rattle.csub_tree.specs.Layout.{shape_at, shape_over}
use Rattle.ll_code.specs.Machine.{shapes_of}
use Rattle.lower_laws.proofs.Coming.{one_comes, Comes as IsComing}
use Rattle.lower_laws.proofs.Doing.{after, sets_place}
use Rattle.lower_laws.proofs.Single.{sets, gives_flag}
use Rattle.lower_laws.proofs.Typing.{place_of_flags}
use Rattle.dict_op_laws.specs.Asked.{HasKeyed}
use Rattle.dict_op_laws.specs.Dicts.{DictsCountAsTrue, IsDictOf, IsTold}
use Rattle.dict_op_laws.proofs.Lengths.{HeadFound, same_kind}
use Rattle.list_laws.proofs.Told.{one_plain, gives_flags}
use Rattle.object_laws.specs.Done.{Follows, HasLayout, references}
use Rattle.object_laws.specs.Dicts.{dict_block}
use Rattle.object_laws.specs.Ghost.{Ghost, DictOf}
use Rattle.object_laws.specs.Known.{Known}
use Rattle.object_laws.specs.Represents.{Represents}
use Rattle.object_laws.specs.Values.{Given}
use Rattle.object_laws.proofs.Blocks.{found_set, found_there, reads_field}
use Rattle.object_laws.proofs.Passing.{none_passed, sets_more, is_set_at, calls_at}
use Rattle.object_laws.proofs.Valued.{Dicting, Gone, dict_or_none}

truth_kind : (k : Kind) → of_dict k ≡ true → (around : Around) (a : Operand) (w : Writing) → truth_by k around a w ≡ dict_truth (type_of around a) a.x w
truth_kind kind.Dict h around a w = refl
truth_kind kind.MaybeDict h around a w = refl
truth_kind _ h around a w = absurd (cc)

pub dict_comes : (a : Operand) → of_dict (kind_of a) ≡ true → IsComing a
dict_comes a h = by (kind_of a) h
  where
    by : (k : Kind) → of_dict k ≡ true → never_comes k ≡ false
    by kind.Dict h = refl
    by kind.MaybeDict h = refl
    by _ h = absurd (cc)

-- ---- the graph

module _ (p : LlProgram) (layout : Layout) (args : List (List ℕ)) (n f : ℕ) (d : Mapping) (mapping : mapping_at layout.mappings n ≡ Some d) (has : HasKeyed p layout (keyed.Truth n) f) (core : Core) where
  graph_is : slice_get p.graphs f ≡ Some (truth (shape_of d))
  unfolding dict_graph dict_at
  graph_is = has.graph ∙ ap (λ o. Some (truth (dict_or n o))) mapping

  no_dict : (waits : List Frame) → Comes p args (Calling f (Null ∷ []) waits core) [] (Flag false) waits core
  unfolding truth truth_blocks truth_asks truth_counts
  no_dict waits = record { end = _; same = refl; leads = on (enter graph_is refl) (on (gives (Flag true) refl) (many 2 graph_is refl refl)) }

  entries_there : (pairs : List (Meant × Meant)) → binary_of binary.Ne (Word (pos (length pairs))) (Word (pos 0)) ≡ Ok (Flag (is_some_item pairs))
  entries_there [] = refl
  entries_there (v ∷ vs) = ap (λ b. Ok (Flag (not b))) (let e : int_eq (pos (suc (length vs))) (pos 0) ≡ false = grind (arith, nat_tests) in e)

  a_dict : (x one two : Value) (places : ℕ) (pairs : List (Meant × Meant)) → shape_at (shapes_of p.structs) d.dict ≡ shape_over d.dict 4 None → HeadFound core x d.dict (length pairs) places one two
      → (waits : List Frame) → Comes p args (Calling f (x ∷ []) waits core) [] (Flag (is_some_item pairs)) waits core
  unfolding truth truth_blocks truth_asks truth_counts shape_of
  a_dict x one two places pairs shape is waits = record {
    end = _;
    same = refl;
    leads = on (enter graph_is refl) (on (gives (Flag false) (found_there core.blocks core.statics x _ is)) (on (many 1 graph_is refl (ap (λ b. b || false) (found_set core.blocks core.statics x _ is)))
        (on (reads_field 4 (dict_block d.dict (length pairs) places one two) (Word (pos (length pairs))) shape is refl refl 0 refl)
        (on (gives (Flag (is_some_item pairs)) (entries_there pairs)) (many 1 graph_is refl refl)))));
  }

-- what the call tells
record Tells (p : LlProgram) (args : List (List ℕ)) (f : ℕ) (x : Value) (core : Core) (world : World) (v : Meant) : Type 0 where
  told : Bool
  set : is_unset x ≡ false
  comes : (waits : List Frame) → Comes p args (Calling f (x ∷ []) waits core) [] (Flag told) waits core
  high : truth_in world v ≡ Some told

module _ (known : Known) (around : Around) (place : Place) (a : Operand) (w : Writing) (covers : Covers) (n : ℕ) (d : Mapping) (is : IsDictOf around a n d) (flags : kind_seen place.element ≡ kind.Flag) where
  abbrev m : ℕ
  m = length w.body.types

  abbrev number : ℕ
  number = (small_number (small.Keyed (keyed.Truth n)) w.found).0

  abbrev asks_it : LlOp
  asks_it = op.Call (Some m) number (a.x ∷ [])

  abbrev called : Writing
  called = writing (small_number (small.Keyed (keyed.Truth n)) w.found).1 (record { types = w.body.types ++ type.Bool ∷ []; ops = w.body.ops ++ asks_it ∷ [] })

  ht : type_at around place ≡ type.Bool
  ht = place_of_flags around.layout place.element flags

  truth_written : lower_list_op around row.Truth place (a ∷ []) w ≡ writing called.found (record { types = called.body.types; ops = called.body.ops ++ op.Set place.variable (Var m) ∷ [] })
  unfolding list_lowered list_of_some first_of_one of_some of_one truth_of by_small
  truth_written = one_plain around row.Truth place a w (dict_comes a is.dicts) refl refl refl ∙ one_comes around row.Truth place a w (dict_comes a is.dicts)
      ∙ ap (λ made. tested_to around place false made.0 made.1) (truth_kind (kind_of a) is.dicts around a w)
      ∙ ap (λ t. tested_to around place false (dict_truth t a.x w).0 (dict_truth t a.x w).1) is.typed ∙ gives_flag around place (Var m) called ht

  not_written : lower_list_op around row.Not place (a ∷ []) w ≡ writing called.found (record { types = called.body.types; ops = called.body.ops ++ op.Unary place.variable unary.Not (Var m) ∷ [] })
  unfolding list_lowered list_of_some first_of_one of_some of_one truth_of by_small give_unary
  not_written = one_plain around row.Not place a w (dict_comes a is.dicts) refl refl refl ∙ one_comes around row.Not place a w (dict_comes a is.dicts)
      ∙ ap (λ made. tested_to around place true made.0 made.1) (truth_kind (kind_of a) is.dicts around a w)
      ∙ ap (λ t. tested_to around place true (dict_truth t a.x w).0 (dict_truth t a.x w).1) is.typed ∙ sets_place around place type.Bool (λ v. op.Unary v unary.Not (Var m)) called ht

  module _ (p : LlProgram) (raised : ℕ → Value) (arguments : List (List ℕ)) (rest : List LlOp) (e : LlExit) (frames : List Frame) (core : Core) (g : Ghost) (world : World) (most : ℕ) (structs : HasLayout p around.layout) (has : HasKeyed p around.layout (keyed.Truth n) number)
      (stands : Represents around.layout known g world.heap world.left core.blocks core.statics) (left : world.left ≡ core.steps) (room : m + 1 ≤ length core.vars) (inside : place.variable < m) where
    tells : (v : Meant) → Dicting around.layout known g a.element (operand core.vars a.x) v ⊎ Gone kind.MaybeDict a.element (operand core.vars a.x) v → Tells p arguments number (operand core.vars a.x) core world v
    tells v (inl it) =
        let x : Value = operand core.vars a.x in
        let same : it.n ≡ n = (let q : type.Ptr it.n ≡ type.Ptr n = sym it.typed ∙ is.typed in cc) in
        let l = stands.dicts n it.i x d (subst (λ k. slice_get g.homes it.i ≡ Some (record { sort = DictOf k; head = x })) same it.home) is.mapping in
        record {
          told = is_some_item l.pairs;
          set = found_set core.blocks core.statics x _ l.head_is;
          comes = a_dict p around.layout arguments n number d is.mapping has core x l.one l.two l.places l.pairs (structs.dicts n d is.mapping).head l.head_is;
          high = ap (truth_in world) it.high ∙ ap object_truth l.object;
        }
    tells v (inr gone) = record {
      told = false;
      set = ap is_unset gone.low;
      comes = subst (λ x. (waits : List Frame) → Comes p arguments (Calling number (x ∷ []) waits core) [] (Flag false) waits core) (sym gone.low) (no_dict p around.layout arguments n number d is.mapping has core);
      high = ap (truth_in world) gone.high;
    }

    truth_one : (v : Meant) → Tells p arguments number (operand core.vars a.x) core world v → Follows 0 known around place p arguments (At (asks_it ∷ op.Set place.variable (Var m) ∷ rest) e frames core) rest e frames core g raised most m world (meant_op known.program covers row.Truth (v ∷ []) world)
    truth_one v it =
        subst (λ answer. Follows 0 known around place p arguments (At (asks_it ∷ op.Set place.variable (Var m) ∷ rest) e frames core) rest e frames core g raised most m world answer) (sym (ap (λ o. flag_if_any o world) it.high))
        (gives_flags around raised flags most m (after core m (Flag it.told)) it.told stands left (sets_more m (Flag it.told) (omega arith) none_passed) (omega (arith, inside, room))
        (on (calls_at refl (ap (λ b. b || false) it.set) it.comes) (sets (Flag it.told) (is_set_at core m (Flag it.told) (omega (arith, room))) refl)))

    not_one : (v : Meant) → Tells p arguments number (operand core.vars a.x) core world v → Follows 0 known around place p arguments (At (asks_it ∷ op.Unary place.variable unary.Not (Var m) ∷ rest) e frames core) rest e frames core g raised most m world (meant_op known.program covers row.Not (v ∷ []) world)
    not_one v it =
        subst (λ answer. Follows 0 known around place p arguments (At (asks_it ∷ op.Unary place.variable unary.Not (Var m) ∷ rest) e frames core) rest e frames core g raised most m world answer) (sym (ap (λ o. flag_if_any (opposite o) world) it.high))
        (gives_flags around raised flags most m (after core m (Flag it.told)) (not it.told) stands left (sets_more m (Flag it.told) (omega arith) none_passed) (omega (arith, inside, room))
        (on (calls_at refl (ap (λ b. b || false) it.set) it.comes) (turns (Flag (not it.told)) (ap (unary_of unary.Not) (is_set_at core m (Flag it.told) (omega (arith, room)))))))

    truth_follow : (vs : List Meant) → Given known around g core (a ∷ []) vs → Follows 0 known around place p arguments (At (asks_it ∷ op.Set place.variable (Var m) ∷ rest) e frames core) rest e frames core g raised most m world (meant_op known.program covers row.Truth vs world)
    truth_follow [] given = absurd given
    truth_follow (v ∷ []) given = truth_one v (tells v (dict_or_none (sym (same_kind (kind_of a)) ∙ is.dicts) given.0))
    truth_follow (v ∷ u ∷ vs) given = absurd given.1

    not_follow : (vs : List Meant) → Given known around g core (a ∷ []) vs → Follows 0 known around place p arguments (At (asks_it ∷ op.Unary place.variable unary.Not (Var m) ∷ rest) e frames core) rest e frames core g raised most m world (meant_op known.program covers row.Not vs world)
    not_follow [] given = absurd given
    not_follow (v ∷ []) given = not_one v (tells v (dict_or_none (sym (same_kind (kind_of a)) ∙ is.dicts) given.0))
    not_follow (v ∷ u ∷ vs) given = absurd given.1

  truth_done : IsTold known around row.Truth covers (Make (small.Keyed (keyed.Truth n)) ∷ []) place (a ∷ []) w
  truth_done = record {
    ops = asks_it ∷ op.Set place.variable (Var m) ∷ [];
    new = type.Bool ∷ [];
    asked = ap (λ (r : Writing). r.found) truth_written;
    written = ap (λ (r : Writing). r.body.ops) truth_written ∙ append_assoc w.body.ops (asks_it ∷ []) (op.Set place.variable (Var m) ∷ []);
    types = ap (λ (r : Writing). r.body.types) truth_written;
    follows = λ p numbers raised arguments rest e frames core g world vs structs has stands left room inside below given good. truth_follow p raised arguments rest e frames core g world (references world.heap vs) structs has.0 stands left room inside vs given;
  }

  not_done : IsTold known around row.Not covers (Make (small.Keyed (keyed.Truth n)) ∷ []) place (a ∷ []) w
  not_done = record {
    ops = asks_it ∷ op.Unary place.variable unary.Not (Var m) ∷ [];
    new = type.Bool ∷ [];
    asked = ap (λ (r : Writing). r.found) not_written;
    written = ap (λ (r : Writing). r.body.ops) not_written ∙ append_assoc w.body.ops (asks_it ∷ []) (op.Unary place.variable unary.Not (Var m) ∷ []);
    types = ap (λ (r : Writing). r.body.types) not_written;
    follows = λ p numbers raised arguments rest e frames core g world vs structs has stands left room inside below given good. not_follow p raised arguments rest e frames core g world (references world.heap vs) structs has.0 stands left room inside vs given;
  }

pub truth_is_done : DictsCountAsTrue row.Truth
truth_is_done known around place a w covers n d is flags = truth_done known around place a w covers n d is flags

pub untruth_is_done : DictsCountAsTrue row.Not
untruth_is_done known around place a w covers n d is flags = not_done known around place a w covers n d is flags

-- An operation on a dict that is tested to be there before it is done.
use Rattle.std.proofs.Common.{◌≡◌, ◌<◌, ◌≤◌, ◌⊎◌, inl, inr, ℕ, ◌+◌, Bool, true, false, List, ◌∷◌, ◌++◌, length, Some, sym, ap, ◌∙◌, subst, arith, append_assoc, length-append}
use Rattle.std.specs.Prelude.{slice_get}
use Rattle.rpy_base.specs.declared.outcome.FailName.TheVariants as fail
use Rattle.csub_tree.specs.State.{Value, Core}
use Rattle.csub_tree.specs.Statement.{operand}
use Rattle.rpy_tree.specs.Value.{Value as Meant, Nothing}
use Rattle.rpy_meaning.specs.declared.row.Covers.{Covers}
use Rattle.rpy_meaning.specs.declared.row.RowOp.{RowOp}
use Rattle.rpy_meaning.specs.Operations.{op as meant_op}
use Rattle.rpy_meaning.specs.World.{World, Answer, failure}
use Rattle.ll_code.specs.State.{Frame, At}
use Rattle.ll_code.specs.declared.program.LlType.{LlType}
use Rattle.ll_code.specs.declared.program.LlOp.{LlOp}
use Rattle.ll_code.specs.declared.program.LlExit.{LlExit}
use Rattle.ll_code.specs.declared.program.LlProgram.{LlProgram}
use Rattle.ll_build.specs.declared.needs.Numbers.{Numbers}
use Rattle.rtyper_layout.specs.declared.dicts.Mapping.{Mapping}
use Rattle.rtyper_layout.specs.declared.kind.Kind.TheVariants as kind
use Rattle.rtyper_data.specs.Seen.{Around, Operand, Place, kind_of, type_of, Writing, writing}
use Rattle.rtyper_dict.specs.Operands.{of_dict, of_dict_or_none, pointed}
use Rattle.lower_laws.specs.Asked.{Ask, all_asked}
use Rattle.lower_laws.specs.Values.{AllBelow, IsBelow}
use Rattle.list_laws.proofs.Indexed.{asked_both}
use Rattle.list_copy_laws.proofs.Ready.{Went}
use Rattle.object_laws.specs.Dicts.{DictAt}
use Rattle.object_laws.specs.Done.{HasLayout, references}
use Rattle.object_laws.specs.Ghost.{Ghost, DictOf}
use Rattle.object_laws.specs.Known.{Known}
use Rattle.object_laws.specs.Represents.{Represents}
use Rattle.object_laws.specs.Values.{Given, Holds}
use Rattle.object_laws.proofs.Blocks.{found_set, found_there}
use Rattle.object_laws.proofs.Growing.{grown_none}
use Rattle.object_laws.proofs.Valued.{Dicting, Gone, dict_or_none}
use Rattle.conversion_laws.proofs.Moving.{has_first, has_second}
use Rattle.dict_op_laws.specs.Dicts.{IsDictOf, if_missing, there_asks}
use Rattle.dict_op_laws.proofs.Lengths.{same_kind}
use Rattle.dict_find_laws.specs.Asked.{HasAll as HasLooking}
use Rattle.dict_find_laws.proofs.Ready.{Ready, ready}
use Rattle.dict_conversion_laws.specs.Asked.{Has, HasAll}
use Rattle.dict_conversion_laws.specs.Done.{Follows, IsDoneWhere}
use Rattle.dict_conversion_laws.proofs.Certain.{Certain, certain, certainly}
use Rattle.dict_conversion_laws.proofs.Composed.{follows_so, moved_so, then_follows}
use Rattle.dict_conversion_laws.proofs.Kept.{all_kept}
use Rattle.dict_conversion_laws.proofs.Operands.{OneOf, one_of, below_at, below_with, all_below_more}

module _ (known : Known) (around : Around) (a : Operand) (w : Writing) (n : ℕ) (m : Mapping) (is : IsDictOf around a n m) where
  pub r : Ready around a w
  r = ready around a w is.dicts

  pub c : Certain around.layout a.element
  c = certain around.layout a.element is.dicts

  -- the dict, and what is written then
  abbrev pub dict : Operand
  dict = record { x = r.x; element = c.element }

  abbrev pub dict_written : Writing
  dict_written = writing (all_asked (there_asks around a w.found.covered) w.found) (record { types = w.body.types ++ r.new; ops = w.body.ops ++ r.ops })

  long : length dict_written.body.types ≡ length w.body.types + length r.new
  long = length-append w.body.types r.new

  pub is_dict : IsDictOf around dict n m
  is_dict = record { dicts = ap of_dict c.kind_is; typed = c.typed ∙ is.typed; mapping = is.mapping }

  -- what is asked where `None` is told apart
  there_has : (p : LlProgram) (numbers : Numbers) (raised : ℕ → Value) (core : Core) (k : Covers) → HasAll p around.layout numbers raised core (there_asks around a k) w.found → HasLooking p around.layout numbers raised core (there_asks around a k) w.found
  there_has p numbers raised core k h = by (of_dict_or_none (kind_of a)) h
    where
      by : (b : Bool) → HasAll p around.layout numbers raised core (if_missing b (type_of around a) k) w.found → HasLooking p around.layout numbers raised core (if_missing b (type_of around a) k) w.found
      by true h = (h.0, tt)
      by false h = tt

  module _ (Good : World → List Meant → Type 0) (blocks more : ℕ) (o : RowOp) (asks : List Ask) (lowered : Writing) (place : Place) (before behind : List Operand)
      (missing : (g : Ghost) (core : Core) (world : World) (vs : List Meant) (given : Given known around g core (before ++ a ∷ behind) vs) → (one_of known around g core before behind a vs given).value ≡ Nothing → meant_op known.program w.found.covered o vs world ≡ failure w.found.covered.attribute 9 fail.Attribute world)
      (done : IsDoneWhere Good blocks more known around o w.found.covered asks lowered place (before ++ dict ∷ behind) dict_written) where
    abbrev new : List LlType
    new = r.new ++ done.new

    new_long : length new ≡ length r.new + length done.new
    new_long = length-append r.new done.new

    module _ (p : LlProgram) (numbers : Numbers) (raised : ℕ → Value) (arguments : List (List ℕ)) (rest : List LlOp) (e : LlExit) (frames : List Frame) (core : Core) (g : Ghost) (world : World) (vs : List Meant)
        (structs : HasLayout p around.layout) (has : HasAll p around.layout numbers raised core (there_asks around a w.found.covered ++ asks) w.found) (stands : Represents around.layout known g world.heap world.left core.blocks core.statics) (left : world.left ≡ core.steps)
        (room : length w.body.types + length new ≤ length core.vars) (inside : place.variable < length w.body.types) (below : AllBelow (length w.body.types) (before ++ a ∷ behind)) (given : Given known around g core (before ++ a ∷ behind) vs) (good : Good world vs) where
      abbrev one : OneOf known around g core before behind a vs
      one = one_of known around g core before behind a vs given

      abbrev Answered : Answer → Type 0
      Answered answer = Follows blocks known around place p arguments (At (r.ops ++ (done.ops ++ rest)) e frames core) rest e frames core g raised (references world.heap vs + more) (length w.body.types) world answer

      has_there : HasLooking p around.layout numbers raised core (there_asks around a w.found.covered) w.found
      has_there = there_has p numbers raised core w.found.covered (has_first (Has p around.layout numbers raised core) (there_asks around a w.found.covered) asks w.found has)

      dict_missing : Gone kind.MaybeDict a.element (operand core.vars a.x) one.value → Answered (meant_op known.program w.found.covered o vs world)
      dict_missing gone = subst Answered (sym (missing g core world vs given gone.high))
          (follows_so known around place p arguments rest e frames raised world blocks (references world.heap vs + more) (length w.body.types) (At (r.ops ++ (done.ops ++ rest)) e frames core) core stands (failure w.found.covered.attribute 9 fail.Attribute world)
          (r.misses blocks known place p numbers raised arguments done.ops rest e frames core core g (references world.heap vs + more) (length w.body.types) world has_there gone.may gone.low))

      module _ (it : Dicting around.layout known g a.element (operand core.vars a.x) one.value) where
        home : slice_get g.homes it.i ≡ Some (record { sort = DictOf n; head = operand core.vars a.x })
        home = subst (λ k. slice_get g.homes it.i ≡ Some (record { sort = DictOf k; head = operand core.vars a.x })) (ap pointed (sym it.typed ∙ is.typed)) it.home

        here : DictAt around.layout known g world.heap core.blocks core.statics m it.i (operand core.vars a.x)
        here = stands.dicts n it.i (operand core.vars a.x) m home is.mapping

        went : Went p arguments (At (r.ops ++ (done.ops ++ rest)) e frames core) (done.ops ++ rest) e frames core (length w.body.types) r.x (operand core.vars a.x)
        went = r.enters p numbers raised arguments (done.ops ++ rest) e frames core core has_there (omega (arith, room, new_long)) (found_set core.blocks core.statics (operand core.vars a.x) _ here.head_is) (found_there core.blocks core.statics (operand core.vars a.x) _ here.head_is)

        abbrev mid : Core
        mid = went.mid

        mid_statics : mid.statics ≡ core.statics
        mid_statics = ap (λ (c : Core). c.statics) went.passed.memory

        mid_steps : mid.steps ≡ core.steps
        mid_steps = ap (λ (c : Core). c.steps) went.passed.memory

        dict_held : Holds around.layout known g c.element (operand mid.vars r.x) one.value
        dict_held = subst (λ x. Holds around.layout known g c.element x one.value) (sym went.is) (certainly c it)

        dict_there : Answered (meant_op known.program w.found.covered o vs world)
        dict_there = then_follows known around place p arguments rest e frames raised world 0 0 (references world.heap vs + more) (references world.heap vs + more) blocks blocks (length w.body.types) (length dict_written.body.types)
            (moved_so known around place p arguments rest e frames raised world stands went.passed went.way) (omega (arith, long)) (omega arith) (omega arith) (meant_op known.program w.found.covered o vs world)
            (done.follows p numbers raised arguments rest e frames mid g world vs structs
            (all_kept p around.layout numbers raised core mid mid_statics mid_steps asks dict_written.found (has_second (Has p around.layout numbers raised core) (there_asks around a w.found.covered) asks w.found has))
            (subst (λ (c : Core). Represents around.layout known g world.heap world.left c.blocks c.statics) (sym went.passed.memory) stands) (left ∙ sym mid_steps) (let q = went.passed.room in omega (arith, room, new_long, long, q)) (omega (arith, inside, long))
            (below_with before behind a dict (length dict_written.body.types) (subst (λ k. IsBelow k r.x) (sym long) (r.inside (below_at before behind a (length w.body.types) below))) (all_below_more (before ++ a ∷ behind) (length w.body.types) (length dict_written.body.types) (omega (arith, long)) below))
            (one.other dict g mid (length w.body.types) grown_none went.passed.others below dict_held) good)

      either : Dicting around.layout known g a.element (operand core.vars a.x) one.value ⊎ Gone kind.MaybeDict a.element (operand core.vars a.x) one.value → Answered (meant_op known.program w.found.covered o vs world)
      either (inl it) = dict_there it
      either (inr gone) = dict_missing gone

      does : Follows blocks known around place p arguments (At ((r.ops ++ done.ops) ++ rest) e frames core) rest e frames core g raised (references world.heap vs + more) (length w.body.types) world (meant_op known.program w.found.covered o vs world)
      does = subst (λ ops. Follows blocks known around place p arguments (At ops e frames core) rest e frames core g raised (references world.heap vs + more) (length w.body.types) world (meant_op known.program w.found.covered o vs world)) (sym (append_assoc r.ops done.ops rest))
          (either (dict_or_none (sym (same_kind (kind_of a)) ∙ is.dicts) one.held))

    pub dict_tested : IsDoneWhere Good blocks more known around o w.found.covered (there_asks around a w.found.covered ++ asks) lowered place (before ++ a ∷ behind) w
    dict_tested = record {
      ops = r.ops ++ done.ops;
      new = r.new ++ done.new;
      asked = done.asked ∙ sym (asked_both (there_asks around a w.found.covered) asks w.found);
      written = done.written ∙ append_assoc w.body.ops r.ops done.ops;
      types = done.types ∙ append_assoc w.body.types r.new done.new;
      follows = λ p numbers raised arguments rest e frames core g world vs structs has stands left room inside below given good. does p numbers raised arguments rest e frames core g world vs structs has stands left room inside below given good;
    }

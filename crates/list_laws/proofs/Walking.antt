-- What is walked is the list itself.
use Rattle.std.proofs.Common.{◌≡◌, ◌<◌, ◌≤◌, ℕ, ◌+◌, ◌⊎◌, inl, inr, true, List, [], ◌∷◌, ◌++◌, length, refl, sym, ap, ◌∙◌, subst, arith, append_assoc}
use Rattle.csub_tree.specs.State.{Value, Core}
use Rattle.csub_tree.specs.Statement.{operand}
use Rattle.rpy_tree.specs.Value.{Value as Meant, Ref}
use Rattle.rpy_meaning.specs.declared.row.RowOp.TheVariants as row
use Rattle.rpy_meaning.specs.Operations.{op as meant_op}
use Rattle.rpy_meaning.specs.Tree.{Program}
use Rattle.rpy_meaning.specs.Walks.{walk_object}
use Rattle.rpy_meaning.specs.World.{World, Gives}
use Rattle.ll_code.specs.State.{Frame, At}
use Rattle.ll_code.specs.declared.program.LlType.TheVariants as type
use Rattle.ll_code.specs.declared.program.LlOp.{LlOp}
use Rattle.ll_code.specs.declared.program.LlOp.TheVariants as op
use Rattle.ll_code.specs.declared.program.LlExit.{LlExit}
use Rattle.ll_code.specs.declared.program.LlProgram.{LlProgram}
use Rattle.ll_build.specs.declared.needs.Numbers.{Numbers}
use Rattle.ll_leads.proofs.Ways.{on}
use Rattle.rtyper_layout.specs.Kinds.{kind_seen}
use Rattle.rtyper_layout.specs.Types.{type_seen}
use Rattle.rtyper_data.specs.Converting.{give}
use Rattle.rtyper_data.specs.Seen.{Around, Operand, Place, kind_of, type_of, Writing, writing}
use Rattle.list_shape.specs.Shapes.{taking}
use Rattle.rtyper_list.specs.Items.{walk}
use Rattle.rtyper_list.specs.Lowering.{lowered, of_some, first_of_one, lower_list_op}
use Rattle.rtyper_list.specs.Operands.{of_list}
use Rattle.lower_laws.specs.Asked.{all_asked}
use Rattle.lower_laws.proofs.Items.{gives_same}
use Rattle.lower_laws.proofs.Single.{sets}
use Rattle.list_laws.specs.Done.{IsDone}
use Rattle.list_laws.specs.Asked.{HasAll}
use Rattle.object_laws.specs.Known.{Known}
use Rattle.object_laws.specs.Done.{Follows, references}
use Rattle.object_laws.specs.Ghost.{Ghost}
use Rattle.list_laws.specs.Lists.{there_asks, WalksBegin}
use Rattle.object_laws.specs.Represents.{Represents}
use Rattle.object_laws.specs.Values.{Given, Listed}
use Rattle.object_laws.proofs.Blocks.{found_set, found_there}
use Rattle.list_laws.proofs.Lowered.{list_comes, one_comes, first_is_list}
use Rattle.object_laws.proofs.Passing.{sets_last}
use Rattle.list_laws.proofs.There.{Met, met}
use Rattle.object_laws.proofs.Valued.{Listing, Absent, list_or_none}

module _ (known : Known) (around : Around) (place : Place) (a : Operand) (w : Writing) (site n : ℕ) (lists : of_list (kind_of a) ≡ true) (takes : of_list (kind_seen place.element) ≡ true) (typed : type_of around a ≡ type.Ptr n) (goes : type_seen around.layout place.element ≡ type.Ptr n) where
  it : Met around a w
  it = met around a w lists

  abbrev puts : LlOp
  puts = op.Set place.variable it.x

  is_written : lower_list_op around (row.Walk site) place (a ∷ []) w ≡ writing (all_asked (there_asks around a w.found.covered) w.found) (record { types = w.body.types ++ it.new; ops = (w.body.ops ++ it.ops) ++ puts ∷ [] })
  unfolding lowered of_some first_of_one walk
  is_written =
      one_comes around (row.Walk site) place a w (list_comes a lists)
      ∙ first_is_list around (row.Walk site) place a w lists
      ∙ ap (λ made. taking made (λ x next. give around place x (type_of around a) next)) it.written
      ∙ gives_same around place it.x (type_of around a) (writing (all_asked (there_asks around a w.found.covered) w.found) (record { types = w.body.types ++ it.new; ops = w.body.ops ++ it.ops })) (λ h. (let q : type.Ptr n ≡ type.Void = sym typed ∙ h in absurd (cc))) (goes ∙ sym typed)

  module _ (program : Program) (p : LlProgram) (numbers : Numbers) (raised : ℕ → Value) (arguments : List (List ℕ)) (rest : List LlOp) (e : LlExit) (frames : List Frame) (core : Core) (g : Ghost) (world : World)
      (has : HasAll p around.layout numbers raised core (there_asks around a w.found.covered) w.found) (stands : Represents around.layout known g world.heap world.left core.blocks core.statics) (left : world.left ≡ core.steps)
      (room : length w.body.types + length it.new ≤ length core.vars) (inside : place.variable < length w.body.types) where
    Done : ℕ → Meant → Type 0
    Done most v = Follows 2 known around place p arguments (At (it.ops ++ (puts ∷ rest)) e frames core) rest e frames core g raised most (length w.body.types) world (meant_op program w.found.covered (row.Walk site) (v ∷ []) world)

    either : (most : ℕ) (v : Meant) → Listing around.layout known g a.element (operand core.vars a.x) v ⊎ Absent a.element (operand core.vars a.x) v → Done most v
    unfolding Done
    either most v (inl found) =
        let x : Value = operand core.vars a.x in
        let l = stands.lists found.n found.i x found.home found.struct in
        let set = found_set core.blocks core.statics x _ l.head_is in
        let went = it.enters p numbers raised arguments (puts ∷ rest) e frames core has room set (found_there core.blocks core.statics x _ l.head_is) in
        let above : meant_op program w.found.covered (row.Walk site) (v ∷ []) world ≡ Gives (Ref found.i) world = ap (λ v. meant_op program w.found.covered (row.Walk site) (v ∷ []) world) found.high ∙ ap (λ o. walk_object found.i o world) l.object in
        subst (λ answer. Follows 2 known around place p arguments (At (it.ops ++ (puts ∷ rest)) e frames core) rest e frames core g raised most (length w.body.types) world answer) (sym above)
        (sets_last most (length w.body.types) went.0 x (Ref found.i) stands left went.2 (omega (arith, room, inside)) (on went.1 (sets x went.3 set))
        (Listed found.n found.i takes refl (goes ∙ sym typed ∙ found.typed) found.struct found.home))
    either most v (inr gone) = subst (Done most) (sym gone.high) (it.misses known place p numbers raised arguments (puts ∷ []) rest e frames core g most world has gone.may gone.low)

    follow : (vs : List Meant) → Given known around g core (a ∷ []) vs → Follows 2 known around place p arguments (At ((it.ops ++ puts ∷ []) ++ rest) e frames core) rest e frames core g raised (references world.heap vs) (length w.body.types) world (meant_op program w.found.covered (row.Walk site) vs world)
    unfolding Done
    follow [] given = absurd given
    follow (v ∷ []) given = subst (λ ops. Follows 2 known around place p arguments (At ops e frames core) rest e frames core g raised (references world.heap (v ∷ [])) (length w.body.types) world (meant_op program w.found.covered (row.Walk site) (v ∷ []) world)) (sym (append_assoc it.ops (puts ∷ []) rest)) (either (references world.heap (v ∷ [])) v (list_or_none lists given.0))
    follow (v ∷ u ∷ vs) given = absurd given.1

  walk_done : IsDone known around (row.Walk site) w.found.covered (there_asks around a w.found.covered) place (a ∷ []) w
  walk_done = record {
    ops = it.ops ++ puts ∷ [];
    new = it.new;
    asked = ap (λ (r : Writing). r.found) is_written;
    written = ap (λ (r : Writing). r.body.ops) is_written ∙ append_assoc w.body.ops it.ops (puts ∷ []);
    types = ap (λ (r : Writing). r.body.types) is_written;
    follows = λ p numbers raised arguments rest e frames core g world vs structs has stands left room inside below given good. follow known.program p numbers raised arguments rest e frames core g world has stands left room inside vs given;
  }

pub walks_begin : WalksBegin
walks_begin known around place a w site n lists takes typed goes = walk_done known around place a w site n lists takes typed goes

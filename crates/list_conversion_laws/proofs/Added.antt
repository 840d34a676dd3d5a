-- Items are converted, and added.
use Rattle.std.proofs.Common.{◌≡◌, ◌<◌, ◌≤◌, ◌⊎◌, inl, inr, ℕ, ◌+◌, Bool, true, false, List, [], ◌∷◌, ◌++◌, length, Option, Some, codes, refl, sym, ap, ◌∙◌, subst, arith, append_assoc, length-append}
use Rattle.std.specs.Prelude.{if◌then◌else◌}
use Rattle.ann_element.specs.declared.element.Element.{Element}
use Rattle.ann_element.specs.declared.element.Element.TheVariants as element
use Rattle.csub_tree.specs.State.{Value, Core}
use Rattle.csub_tree.specs.Statement.{read, operand}
use Rattle.csub_tree.specs.declared.tree.COperand.{COperand}
use Rattle.ll_code.specs.State.{Frame, At}
use Rattle.ll_code.specs.declared.program.LlType.{LlType}
use Rattle.ll_code.specs.declared.program.LlOp.{LlOp}
use Rattle.ll_code.specs.declared.program.LlExit.{LlExit}
use Rattle.ll_code.specs.declared.program.LlProgram.{LlProgram}
use Rattle.ll_leads.proofs.Joined.{leads_more}
use Rattle.ll_leads.proofs.Ways.{rests}
use Rattle.ll_build.specs.declared.needs.Numbers.{Numbers}
use Rattle.rpy_base.specs.declared.outcome.FailName.TheVariants as fail
use Rattle.rpy_meaning.specs.declared.row.Covers.{Covers}
use Rattle.rpy_meaning.specs.declared.row.RowOp.{RowOp}
use Rattle.rpy_meaning.specs.declared.row.RowOp.TheVariants as row
use Rattle.rpy_meaning.specs.Operations.{op as meant_op}
use Rattle.rpy_meaning.specs.World.{World, Answer, Bad, failure}
use Rattle.rpy_tree.specs.Value.{Value as Meant, Nothing}
use Rattle.rtyper_layout.specs.declared.kind.Kind.TheVariants as kind
use Rattle.rtyper_layout.specs.Kinds.{kind_seen}
use Rattle.rtyper_layout.specs.Types.{word, type_of as type_of_element}
use Rattle.rtyper_data.specs.declared.small.Listed.TheVariants as listed
use Rattle.rtyper_data.specs.declared.small.Small.TheVariants as small
use Rattle.rtyper_data.specs.Converting.{given}
use Rattle.rtyper_data.specs.Seen.{Around, Operand, Place, kind_of, type_of, Writing}
use Rattle.list_shape.specs.Shapes.{item_of, taking}
use Rattle.rtyper_op.specs.Lowering.{lower_op, never_comes}
use Rattle.rtyper_op.specs.Placing.{says_nothing}
use Rattle.rtyper_list.specs.Lowering.{lower_list_op, lowered, method_of, method_of_list}
use Rattle.rtyper_list.specs.Methods.{append, insert as inserts, item_given, method, of_three}
use Rattle.rtyper_list.specs.Operands.{list_of, of_list, done_by}
use Rattle.lower_laws.specs.Asked.{Ask, Make, all_asked}
use Rattle.lower_laws.specs.Values.{IsBelow, AllBelow}
use Rattle.object_laws.specs.Done.{AllAsked, Follows, HasLayout, references}
use Rattle.object_laws.specs.Ghost.{Ghost, Grown, ListOf}
use Rattle.object_laws.specs.Known.{Known}
use Rattle.object_laws.specs.Represents.{Represents}
use Rattle.object_laws.specs.Values.{Holds, Listed, Given}
use Rattle.object_laws.proofs.Growing.{grown_none, holds_grows, home_grows}
use Rattle.object_laws.proofs.Valued.{Listing, Absent, list_or_none, stays_comes}
use Rattle.conversion_laws.specs.Asked.{asks_for}
use Rattle.conversion_laws.specs.Converted.{tuples_in, items_in}
use Rattle.conversion_laws.proofs.Moving.{has_first, has_second}
use Rattle.list_laws.specs.Done.{IsDone}
use Rattle.list_laws.specs.Lists.{IsList, there_asks}
use Rattle.list_laws.proofs.Appends as appending
use Rattle.list_laws.proofs.Lowered.{list_comes, three_come}
use Rattle.list_copy_laws.specs.Done.{IsDoneWithin, references_moved}
use Rattle.list_copy_laws.proofs.Inserts as inserting
use Rattle.passing_laws.specs.Done.{Behind, IsDoneBehind}
use Rattle.passing_laws.specs.Standing.{Stood}
use Rattle.passing_laws.proofs.Less.{follows_less}
use Rattle.passing_laws.proofs.Operands.{asked_both, is_below_more, kept_operand}
use Rattle.list_conversion_laws.specs.Lists.{HasLists, IsListOf, GoesIn, adding_asks, references_of, ItemsAreAppended, ItemsAreInserted}
use Rattle.list_conversion_laws.proofs.Prefixed.{it, c, next, entered, list, value, covers_same, given_is, given_then, there_then, list_is, list_is_then, list_typed, next_long, y_under, moved, had}

-- ---- an operation that is done of a list that is there and of an item that is one of its items

module _ (known : Known) (around : Around) (o : RowOp) (place : Place) (a b : Operand) (others mine : List Operand) (w : Writing) (site n : ℕ) (r : Bool) (item : Element) (of : IsListOf around known a.element site r n item) (into : GoesIn around known b item) (adds : Ask) (most : World → List Meant → ℕ) where
  abbrev nxt : Writing
  nxt = next known around a b w site n r item of into

  abbrev lst : Operand
  lst = list known around a b w site n r item of into

  abbrev val : Operand
  val = value known around a b w site n r item of into

  abbrev itt : List LlOp
  itt = (it known around a b w site n r item of into).ops

  abbrev itn : List LlType
  itn = (it known around a b w site n r item of into).new

  abbrev co : List LlOp
  co = (c known around a b w site n r item of into).ops

  abbrev cn : List LlType
  cn = (c known around a b w site n r item of into).new

  abbrev m : ℕ
  m = length w.body.types

  -- of what else is given, where the item is in its operand
  pub record Picks (g : Ghost) (core : Core) (us : List Meant) : Type 0 where
    pub u : Meant
    pub held : Holds around.layout known g b.element (operand core.vars b.x) u
    pub below : AllBelow m others → IsBelow m b.x
    pub later : (ghost : Ghost) (end : Core) → Grown g ghost → ((k : ℕ) → k < m → read end.vars k ≡ read core.vars k) → AllBelow m others → Holds around.layout known ghost (Some item) (operand end.vars val.x) u → Given known around ghost end mine us

  module _ (inner_ops : List LlOp) (inner_new : List LlType) (is : lower_list_op around o place (a ∷ others) w ≡ lower_list_op around o place (lst ∷ mine) nxt) (inner_asked : (lower_list_op around o place (lst ∷ mine) nxt).found ≡ all_asked (adds ∷ []) nxt.found)
      (inner_written : (lower_list_op around o place (lst ∷ mine) nxt).body.ops ≡ nxt.body.ops ++ inner_ops) (inner_types : (lower_list_op around o place (lst ∷ mine) nxt).body.types ≡ nxt.body.types ++ inner_new)
      (inner_follows : (p : LlProgram) (numbers : Numbers) (raised : ℕ → Value) (arguments : List (List ℕ)) (rest : List LlOp) (e : LlExit) (frames : List Frame) (core : Core) (g : Ghost) (world : World) (vs : List Meant) → HasLayout p around.layout → AllAsked (HasLists around.layout p numbers raised core) (adds ∷ []) nxt.found
      → Represents around.layout known g world.heap world.left core.blocks core.statics → world.left ≡ core.steps → length nxt.body.types + length inner_new ≤ length core.vars → place.variable < length nxt.body.types → AllBelow (length nxt.body.types) (lst ∷ mine) → Given known around g core (lst ∷ mine) vs
      → Follows 2 known around place p arguments (At (inner_ops ++ rest) e frames core) rest e frames core g raised (most world vs) (length nxt.body.types) world (meant_op known.program w.found.covered o vs world))
      (pick : (g : Ghost) (core : Core) (us : List Meant) → Given known around g core others us → Picks g core us) (below_then : AllBelow m others → AllBelow (length nxt.body.types) mine)
      (fails_there : (g : Ghost) (core : Core) (us : List Meant) (world : World) → Given known around g core others us → (meant_op known.program w.found.covered o (Nothing ∷ us) world ≡ failure w.found.covered.attribute 9 fail.Attribute world) ⊎ (meant_op known.program w.found.covered o (Nothing ∷ us) world ≡ Bad))
    where
      abbrev ops : List LlOp
      ops = itt ++ (co ++ inner_ops)

      abbrev new : List LlType
      new = itn ++ (cn ++ inner_new)

      new_long : length new ≡ length itn + (length cn + length inner_new)
      new_long = length-append itn (cn ++ inner_new) ∙ ap (λ k. length itn + k) (length-append cn inner_new)

      nxt_long : length nxt.body.types ≡ m + length itn + length cn
      nxt_long = next_long known around a b w site n r item of into

      abbrev asks1 : List Ask
      asks1 = there_asks around a w.found.covered

      abbrev asks2 : List Ask
      asks2 = asks_for around.layout (type_of around b) (type_of_element around.layout item)

      module _ (p : LlProgram) (numbers : Numbers) (raised : ℕ → Value) (structs : HasLayout p around.layout) (stood : Stood around.layout known (HasLists around.layout p numbers raised) (adding_asks around a b item adds w) w.found)
          (arguments : List (List ℕ)) (rest : List LlOp) (e : LlExit) (frames : List Frame) (core : Core) (g : Ghost) (world : World) (stands : Represents around.layout known g world.heap world.left core.blocks core.statics) (left : world.left ≡ core.steps)
          (room : m + length new ≤ length core.vars) (inside : place.variable < m) (below : AllBelow m (a ∷ others)) where
        stood1 : Stood around.layout known (HasLists around.layout p numbers raised) asks1 w.found
        stood1 k h heap left s u = has_first (HasLists around.layout p numbers raised k) asks1 (asks2 ++ adds ∷ []) w.found (stood k h heap left s u)

        stood23 : Stood around.layout known (HasLists around.layout p numbers raised) (asks2 ++ adds ∷ []) (all_asked asks1 w.found)
        stood23 k h heap left s u = has_second (HasLists around.layout p numbers raised k) asks1 (asks2 ++ adds ∷ []) w.found (stood k h heap left s u)

        stood2 : Stood around.layout known (HasLists around.layout p numbers raised) asks2 (all_asked asks1 w.found)
        stood2 k h heap left s u = has_first (HasLists around.layout p numbers raised k) asks2 (adds ∷ []) (all_asked asks1 w.found) (stood23 k h heap left s u)

        stood3 : Stood around.layout known (HasLists around.layout p numbers raised) (adds ∷ []) nxt.found
        stood3 k h heap left s u = has_second (HasLists around.layout p numbers raised k) asks2 (adds ∷ []) (all_asked asks1 w.found) (stood23 k h heap left s u)

        abbrev Done : List Meant → Type 0
        Done vs = Behind around.layout known p arguments (At (itt ++ (co ++ (inner_ops ++ rest))) e frames core) core g world.heap world.left m (items_in (Some item)) (tuples_in (Some item))
            (λ at mid ghost. Follows 2 known around place p arguments at rest e frames mid ghost raised (most world vs) m world (meant_op known.program w.found.covered o vs world))

        module _ (us : List Meant) (given_others : Given known around g core others us) where
          picks : Picks g core us
          picks = pick g core us given_others

          there_done : (v : Meant) → Listing around.layout known g a.element (operand core.vars a.x) v → Done (v ∷ us)
          there_done v l =
              let mv = moved known around a b w site n r item of into p numbers raised structs stood1 stood2 arguments (inner_ops ++ rest) e frames core g world.heap world.left stands left (omega (arith, room, new_long)) below.0 (picks.below below.1) v picks.u l picks.held in
              let room_then = mv.room in
              let home = home_grows mv.grown l.i _ l.home in
              let listed_so : Holds around.layout known mv.ghost (Some (element.List site false)) (operand mv.end.vars lst.x) v =
              Listed l.n l.i refl l.high (list_typed known around a b w site n r item of into ∙ l.typed) l.struct (home ∙ ap (λ x. Some (record { sort = ListOf l.n; head = x })) (sym mv.fine.0)) in
              record {
                at = At (inner_ops ++ rest) e frames mv.end;
                mid = mv.end;
                leads = mv.leads;
                ghost = mv.ghost;
                grown = mv.grown;
                stands = mv.stands;
                few = mv.few;
                memory = mv.memory;
                others = mv.others;
                room = mv.room;
                function = mv.function;
                block = mv.block;
                then = follows_less 2 known around place p arguments (At (inner_ops ++ rest) e frames mv.end) rest e frames mv.end mv.ghost raised (most world (v ∷ us)) m (length nxt.body.types) world (omega (arith, nxt_long)) (meant_op known.program w.found.covered o (v ∷ us) world)
                    (inner_follows p numbers raised arguments rest e frames mv.end mv.ghost world (v ∷ us) structs (stood3 mv.end mv.ghost world.heap world.left mv.stands (left ∙ sym (ap (λ (k : Core). k.steps) mv.memory))) mv.stands (left ∙ sym (ap (λ (k : Core). k.steps) mv.memory))
                    (omega (arith, room, new_long, nxt_long, room_then)) (omega (arith, inside, nxt_long)) (is_under, below_then below.1) (listed_so, picks.later mv.ghost mv.end mv.grown mv.others below.1 mv.fine.1));
              }
            where
              is_under : IsBelow (length nxt.body.types) lst.x
              is_under = is_below_more (m + length itn) (length nxt.body.types) (omega (arith, nxt_long)) lst.x ((it known around a b w site n r item of into).inside below.0)

          abbrev Last : Answer → Type 0
          Last answer = Follows 2 known around place p arguments (At (itt ++ (co ++ (inner_ops ++ rest))) e frames core) rest e frames core g raised (most world (Nothing ∷ us)) m world answer

          fails_so : (v : Meant) → Absent a.element (operand core.vars a.x) v → (meant_op known.program w.found.covered o (Nothing ∷ us) world ≡ failure w.found.covered.attribute 9 fail.Attribute world) ⊎ (meant_op known.program w.found.covered o (Nothing ∷ us) world ≡ Bad) → Last (meant_op known.program w.found.covered o (Nothing ∷ us) world)
          fails_so v gone (inl q) = subst Last (sym q) (subst (λ os. Follows 2 known around place p arguments (At (itt ++ os) e frames core) rest e frames core g raised (most world (Nothing ∷ us)) m world (failure w.found.covered.attribute 9 fail.Attribute world)) (append_assoc co inner_ops rest)
              ((it known around a b w site n r item of into).misses 2 known place p numbers raised arguments (co ++ inner_ops) rest e frames core core g (most world (Nothing ∷ us)) m world
              (had known around a b w site n r item of into p numbers raised structs stood1 stood2 arguments (inner_ops ++ rest) e frames core g world.heap world.left stands left (omega (arith, room, new_long)) below.0 (picks.below below.1)) gone.may gone.low))
          fails_so v gone (inr q) = subst Last (sym q) tt

          missing_done : (v : Meant) → Absent a.element (operand core.vars a.x) v → Done (v ∷ us)
          missing_done v gone = subst (λ v. Done (v ∷ us)) (sym gone.high) (record {
            at = At (itt ++ (co ++ (inner_ops ++ rest))) e frames core;
            mid = core;
            leads = leads_more 0 (items_in (Some item)) (omega arith) rests;
            ghost = g;
            grown = grown_none;
            stands = stands;
            few = omega arith;
            memory = refl;
            others = λ k h. refl;
            room = refl;
            function = refl;
            block = refl;
            then = fails_so v gone (fails_there g core us world given_others);
          })

        follow : (vs : List Meant) → Given known around g core (a ∷ others) vs → Done vs
        follow [] given = absurd given
        follow (v ∷ us) given = by (list_or_none of.list.is given.0)
          where
            by : Listing around.layout known g a.element (operand core.vars a.x) v ⊎ Absent a.element (operand core.vars a.x) v → Done (v ∷ us)
            by (inl l) = there_done us given.1 v l
            by (inr gone) = missing_done us given.1 v gone

      regroup : (rest : List LlOp) → ops ++ rest ≡ itt ++ (co ++ (inner_ops ++ rest))
      regroup rest = append_assoc itt (co ++ inner_ops) rest ∙ ap (λ os. itt ++ os) (append_assoc co inner_ops rest)

      pub added : IsDoneBehind (HasLists around.layout) most 2 (items_in (Some item)) (tuples_in (Some item)) known around o w.found.covered (adding_asks around a b item adds w) (lower_list_op around o place (a ∷ others) w) place (a ∷ others) w
      added = record {
        ops = ops;
        new = new;
        asked = ap (λ (v : Writing). v.found) is ∙ inner_asked ∙ sym (asked_both asks1 (asks2 ++ adds ∷ []) w.found ∙ asked_both asks2 (adds ∷ []) (all_asked asks1 w.found));
        written = ap (λ (v : Writing). v.body.ops) is ∙ inner_written ∙ append_assoc (w.body.ops ++ itt) co inner_ops ∙ append_assoc w.body.ops itt (co ++ inner_ops);
        types = ap (λ (v : Writing). v.body.types) is ∙ inner_types ∙ append_assoc (w.body.types ++ itn) cn inner_new ∙ append_assoc w.body.types itn (cn ++ inner_new);
        follows = λ p numbers raised structs stood arguments rest e frames core g world vs stands left room inside below given good.
            subst (λ os. Behind around.layout known p arguments (At os e frames core) core g world.heap world.left m (items_in (Some item)) (tuples_in (Some item)) (λ at mid ghost. Follows 2 known around place p arguments at rest e frames mid ghost raised (most world vs) m world (meant_op known.program w.found.covered o vs world))) (sym (regroup rest))
            (follow p numbers raised structs stood arguments rest e frames core g world stands left room inside below vs given);
      }

-- ---- appended

module _ (o : RowOp) (known : Known) (around : Around) (place : Place) (a b : Operand) (w : Writing) (site n : ℕ) (r : Bool) (item : Element) (of : IsListOf around known a.element site r n item) (into : GoesIn around known b item) (nothing : kind_seen place.element ≡ kind.Nothing) where
  abbrev then_next : Writing
  then_next = next known around a b w site n r item of into

  abbrev then_list : Operand
  then_list = list known around a b w site n r item of into

  abbrev then_value : Operand
  then_value = value known around a b w site n r item of into

  then_of : IsList around known (Some (element.List site false)) n item
  then_of = record { is = refl; typed = list_typed known around a b w site n r item of into ∙ of.list.typed; item_is = of.list.item_is; items = of.list.items }

  abbrev append_from : ℕ → COperand × Writing → Writing
  append_from k made = taking made (λ x next. taking (given around b (item_of around.layout (word (k + 1))) next) (λ y last. says_nothing around place (done_by (listed.Append k) (x ∷ y ∷ []) last)))

  abbrev append_then : ℕ → COperand × Writing → Writing
  append_then k made = taking made (λ x next. taking (given around then_value (item_of around.layout (word (k + 1))) next) (λ y last. says_nothing around place (done_by (listed.Append k) (x ∷ y ∷ []) last)))

  same_written : append around place a b w ≡ append around place then_list then_value then_next
  unfolding append item_given
  same_written =
      ap (append_from (list_of around a)) (it known around a b w site n r item of into).written ∙ ap (λ k. append_from k ((it known around a b w site n r item of into).x, entered known around a b w site n r item of into)) (list_is known around a b w site n r item of into)
      ∙ ap (λ made. taking made (λ y last. says_nothing around place (done_by (listed.Append n) ((it known around a b w site n r item of into).x ∷ y ∷ []) last))) (given_is known around a b w site n r item of into)
      ∙ sym (ap (append_then (list_of around then_list)) (there_then known around a b w site n r item of into) ∙ ap (λ k. append_then k ((it known around a b w site n r item of into).x, then_next)) (list_is_then known around a b w site n r item of into)
      ∙ ap (λ made. taking made (λ y last. says_nothing around place (done_by (listed.Append n) ((it known around a b w site n r item of into).x ∷ y ∷ []) last))) (given_then known around a b w site n r item of into))

  stood_covers : then_next.found.covered ≡ w.found.covered
  stood_covers = covers_same known around a b w site n r item of into

  module _ (adds : appending.Adds o then_next) (is : lower_list_op around o place (a ∷ b ∷ []) w ≡ append around place a b w) (is_then : lower_list_op around o place (then_list ∷ then_value ∷ []) then_next ≡ append around place then_list then_value then_next) where
    inner : IsDone known around o then_next.found.covered (Make (small.Listed (listed.Append n)) ∷ []) place (then_list ∷ then_value ∷ []) then_next
    inner = appending.append_done o known around place then_list then_value then_next n item then_of of.settled nothing adds is_then

    pick : (g : Ghost) (core : Core) (us : List Meant) → Given known around g core (b ∷ []) us → Picks known around o place a b (b ∷ []) (then_value ∷ []) w site n r item of into (Make (small.Listed (listed.Append n))) references_of g core us
    pick g core [] given = absurd given
    pick g core (u ∷ []) given = record { u = u; held = given.0; below = λ under. under.0; later = λ ghost end grown others under held. (held, tt) }
    pick g core (u ∷ s ∷ us) given = absurd given.1

    fails : (g : Ghost) (core : Core) (us : List Meant) (world : World) → Given known around g core (b ∷ []) us → (meant_op known.program w.found.covered o (Nothing ∷ us) world ≡ failure w.found.covered.attribute 9 fail.Attribute world) ⊎ (meant_op known.program w.found.covered o (Nothing ∷ us) world ≡ Bad)
    fails g core [] world given = absurd given
    fails g core (u ∷ []) world given = subst (λ (covers : Covers). (meant_op known.program covers o (Nothing ∷ u ∷ []) world ≡ failure covers.attribute 9 fail.Attribute world) ⊎ (meant_op known.program covers o (Nothing ∷ u ∷ []) world ≡ Bad)) stood_covers (adds.none known.program u world)
    fails g core (u ∷ s ∷ us) world given = absurd given.1

    pub append_done : IsDoneBehind (HasLists around.layout) references_of 2 (items_in (Some item)) (tuples_in (Some item)) known around o w.found.covered (adding_asks around a b item (Make (small.Listed (listed.Append n))) w) (lower_list_op around o place (a ∷ b ∷ []) w) place (a ∷ b ∷ []) w
    append_done = added known around o place a b (b ∷ []) (then_value ∷ []) w site n r item of into (Make (small.Listed (listed.Append n))) references_of inner.ops inner.new (is ∙ same_written ∙ sym is_then) inner.asked inner.written inner.types
        (λ p numbers raised arguments rest e frames core g world vs structs has stands left room inside below given.
        subst (λ covers. Follows 2 known around place p arguments (At (inner.ops ++ rest) e frames core) rest e frames core g raised (references world.heap vs) (length then_next.body.types) world (meant_op known.program covers o vs world)) stood_covers
        (inner.follows p numbers raised arguments rest e frames core g world vs structs has stands left room inside below given tt))
        pick (λ under. (y_under known around a b w site n r item of into under.0, tt)) fails

-- ---- the operations that append

pub method_appends : (method : Option ℕ) → ItemsAreAppended (row.Method (codes "append") method)
method_appends name known around place a b w site n r item of into nothing =
    append_done (row.Method (codes "append") name) known around place a b w site n r item of into nothing (appending.method_adds name (next known around a b w site n r item of into))
    (appending.method_lowers name around place a b w of.list.is into.comes)
    (appending.method_lowers name around place (list known around a b w site n r item of into) (value known around a b w site n r item of into) (next known around a b w site n r item of into) refl (stays_comes of.settled))

pub comprehension_appends : ItemsAreAppended row.AddItem
comprehension_appends known around place a b w site n r item of into nothing =
    append_done row.AddItem known around place a b w site n r item of into nothing (appending.comprehension_adds (next known around a b w site n r item of into))
    (appending.comprehension_lowers around place a b w of.list.is into.comes)
    (appending.comprehension_lowers around place (list known around a b w site n r item of into) (value known around a b w site n r item of into) (next known around a b w site n r item of into) refl (stays_comes of.settled))

-- ---- inserted

module _ (method : Option ℕ) (known : Known) (around : Around) (place : Place) (a b d : Operand) (w : Writing) (site n : ℕ) (r : Bool) (item : Element) (of : IsListOf around known a.element site r n item) (words : kind_of b ≡ kind.Word) (into : GoesIn around known d item) (nothing : kind_seen place.element ≡ kind.Nothing) where
  abbrev ins : RowOp
  ins = row.Method (codes "insert") method

  abbrev ins_next : Writing
  ins_next = next known around a d w site n r item of into

  abbrev ins_list : Operand
  ins_list = list known around a d w site n r item of into

  abbrev ins_value : Operand
  ins_value = value known around a d w site n r item of into

  abbrev ins_x : COperand
  ins_x = (it known around a d w site n r item of into).x

  ins_of : IsList around known (Some (element.List site false)) n item
  ins_of = record { is = refl; typed = list_typed known around a d w site n r item of into ∙ of.list.typed; item_is = of.list.item_is; items = of.list.items }

  abbrev insert_from : ℕ → COperand × Writing → Writing
  insert_from k made = taking made (λ x next. taking (given around d (item_of around.layout (word (k + 1))) next) (λ y last. says_nothing around place (done_by (listed.Insert k) (x ∷ b.x ∷ y ∷ []) last)))

  abbrev insert_then : ℕ → COperand × Writing → Writing
  insert_then k made = taking made (λ x next. taking (given around ins_value (item_of around.layout (word (k + 1))) next) (λ y last. says_nothing around place (done_by (listed.Insert k) (x ∷ b.x ∷ y ∷ []) last)))

  ins_lowers : (a d : Operand) (w : Writing) → of_list (kind_of a) ≡ true → never_comes (kind_of d) ≡ false → lower_list_op around ins place (a ∷ b ∷ d ∷ []) w ≡ inserts around place a b.x d w
  unfolding lowered method_of method_of_list method of_three
  ins_lowers a d w is comes = three_come around ins place a b d w (list_comes a is) (ap never_comes words) comes ∙ ap (λ t. if t then inserts around place a b.x d w else lower_op around ins place (a ∷ b ∷ d ∷ []) w) is

  ins_written : inserts around place a b.x d w ≡ inserts around place ins_list b.x ins_value ins_next
  unfolding inserts item_given
  ins_written =
      ap (insert_from (list_of around a)) (it known around a d w site n r item of into).written ∙ ap (λ k. insert_from k (ins_x, entered known around a d w site n r item of into)) (list_is known around a d w site n r item of into)
      ∙ ap (λ made. taking made (λ y last. says_nothing around place (done_by (listed.Insert n) (ins_x ∷ b.x ∷ y ∷ []) last))) (given_is known around a d w site n r item of into)
      ∙ sym (ap (insert_then (list_of around ins_list)) (there_then known around a d w site n r item of into) ∙ ap (λ k. insert_then k (ins_x, ins_next)) (list_is_then known around a d w site n r item of into)
      ∙ ap (λ made. taking made (λ y last. says_nothing around place (done_by (listed.Insert n) (ins_x ∷ b.x ∷ y ∷ []) last))) (given_then known around a d w site n r item of into))

  ins_covers : ins_next.found.covered ≡ w.found.covered
  ins_covers = covers_same known around a d w site n r item of into

  ins_inner : IsDoneWithin references_moved known around ins ins_next.found.covered (Make (small.Listed (listed.Insert n)) ∷ []) place (ins_list ∷ b ∷ ins_value ∷ []) ins_next
  ins_inner = inserting.items_are_inserted method known around place ins_list b ins_value ins_next n item ins_of words of.settled nothing

  ins_pick : (g : Ghost) (core : Core) (us : List Meant) → Given known around g core (b ∷ d ∷ []) us → Picks known around ins place a d (b ∷ d ∷ []) (b ∷ ins_value ∷ []) w site n r item of into (Make (small.Listed (listed.Insert n))) references_moved g core us
  ins_pick g core [] given = absurd given
  ins_pick g core (v ∷ []) given = absurd given.1
  ins_pick g core (v ∷ u ∷ []) given = record {
    u = u;
    held = given.1.0;
    below = λ under. under.1.0;
    later = λ ghost end grown others under held. (subst (λ x. Holds around.layout known ghost b.element x v) (sym (kept_operand (length w.body.types) core end others b.x under.0)) (holds_grows grown given.0), (held, tt));
  }
  ins_pick g core (v ∷ u ∷ s ∷ us) given = absurd given.1.1

  ins_fails : (g : Ghost) (core : Core) (us : List Meant) (world : World) → Given known around g core (b ∷ d ∷ []) us → (meant_op known.program w.found.covered ins (Nothing ∷ us) world ≡ failure w.found.covered.attribute 9 fail.Attribute world) ⊎ (meant_op known.program w.found.covered ins (Nothing ∷ us) world ≡ Bad)
  ins_fails g core us world given = inl refl

  insert_done : IsDoneBehind (HasLists around.layout) references_moved 2 (items_in (Some item)) (tuples_in (Some item)) known around ins w.found.covered (adding_asks around a d item (Make (small.Listed (listed.Insert n))) w) (lower_list_op around ins place (a ∷ b ∷ d ∷ []) w) place (a ∷ b ∷ d ∷ []) w
  insert_done = added known around ins place a d (b ∷ d ∷ []) (b ∷ ins_value ∷ []) w site n r item of into (Make (small.Listed (listed.Insert n))) references_moved ins_inner.ops ins_inner.new
      (ins_lowers a d w of.list.is into.comes ∙ ins_written ∙ sym (ins_lowers ins_list ins_value ins_next refl (stays_comes of.settled))) ins_inner.asked ins_inner.written ins_inner.types
      (λ p numbers raised arguments rest e frames core g world vs structs has stands left room inside below given.
      subst (λ covers. Follows 2 known around place p arguments (At (ins_inner.ops ++ rest) e frames core) rest e frames core g raised (references_moved world vs) (length ins_next.body.types) world (meant_op known.program covers ins vs world)) ins_covers
      (ins_inner.follows p numbers raised arguments rest e frames core g world vs structs has stands left room inside below given))
      ins_pick (λ under. (is_below_more (length w.body.types) (length ins_next.body.types) (let q = next_long known around a d w site n r item of into in omega (arith, q)) b.x under.0, (y_under known around a d w site n r item of into under.1.0, tt))) ins_fails

pub items_are_inserted : ItemsAreInserted
items_are_inserted method known around place a b d w site n r item of words into nothing = insert_done method known around place a b d w site n r item of words into nothing

-- What the entry point gives or throws ends the run.
use Rattle.std.proofs.Common.{◌≡◌, ◌<◌, ℕ, suc, ℤ, true, false, ◌||◌, List, [], ◌∷◌, length, Option, Some, None, refl, sym, ap, ◌∙◌, subst, arith}
use Rattle.std.specs.Prelude.{slice_get, cond, map}
use Rattle.rpy_base.specs.declared.outcome.Outcome.TheVariants.{Returned, Raised as RaisedAs}
use Rattle.csub_tree.specs.State.{Value, Word, Byte, Block as Memory, Core}
use Rattle.csub_tree.specs.Layout.{begins_with, place, shape_at}
use Rattle.csub_tree.specs.Operation.{is_unset}
use Rattle.csub_tree.specs.Statement.{before, bytes_of, on_block, raised as raised_of, raised_as, read}
use Rattle.csub_tree.specs.declared.stuck.StuckReason.TheVariants.{Unset as IsUnset}
use Rattle.ll_code.specs.State.{At, Returning, Throwing, Sticks}
use Rattle.ll_code.specs.Machine.{begins, block_in, goes_on, shapes_of, type_in}
use Rattle.ll_code.specs.declared.program.LlType.{LlType}
use Rattle.ll_code.specs.declared.program.LlType.TheVariants as type
use Rattle.ll_code.specs.declared.program.LlExit.TheVariants as exit
use Rattle.ll_leads.proofs.Ways.{on, one}
use Rattle.ll_texts.specs.Texts.{found}
use Rattle.ann_element.specs.declared.element.Element.{Element}
use Rattle.rpy_tree.specs.Value.{Value as Meant, Word as MeantWord}
use Rattle.rpy_meaning.specs.Meaning.{class_in, class_of, returned, name_of}
use Rattle.rpy_meaning.specs.Classes.{is_below}
use Rattle.rpy_meaning.specs.Tree.{Class}
use Rattle.rpy_meaning.specs.World.{World as MeantWorld}
use Rattle.rtyper_layout.specs.declared.classes.Laid.{Laid}
use Rattle.rtyper_layout.specs.declared.layout.Layout.{Layout}
use Rattle.rtyper_layout.specs.Types.{laid_in, type_seen}
use Rattle.rtyper_class.specs.Seen.{World, laid}
use Rattle.rtyper_program.specs.Entry.{entry_graph, graph_to, into_of, number_of, types}
use Rattle.rtyper_program.specs.Graphs.{result_of}
use Rattle.lower_laws.proofs.Doing.{after}
use Rattle.object_laws.specs.Ghost.{Ghost, InstanceOf}
use Rattle.object_laws.specs.Known.{Known, vtable_block}
use Rattle.object_laws.specs.Represents.{Represents, InstanceAt, shapes}
use Rattle.object_laws.specs.Values.{Stands, word, Holds, Plain, Alone, Items, Listed, Mapped, Made, Function, Missing}
use Rattle.object_laws.proofs.Blocks.{found_set}
use Rattle.object_laws.proofs.Parts.{reach_as, reads_part}
use Rattle.class_laws.proofs.Fields.{begins_in, place_in_struct}
use Rattle.class_laws.proofs.Telling.{zero_place}
use Rattle.run_laws.specs.Points.{Setting}
use Rattle.run_laws.specs.Does.{Over}
use Rattle.run_laws.specs.States.{OverIf}
use Rattle.entry_laws.specs.Ends.{EntryPointsAreEntries, EntryPointsEnd, HasEntry, HasVariables, entry_waits, waits}

-- ---- words

-- the value is this word, and its type that of words
pub record WordHeld (t : LlType) (x : Value) (z : ℤ) : Type 0 where
  pub low : x ≡ Word z
  pub typed : t ≡ type.Signed

stood : {g : Ghost} (t : LlType) (x : Value) (v : Meant) (z : ℤ) → v ≡ MeantWord z → Stands g t x v → WordHeld t x z
stood t x v z e (word n f) = record { low = (let h : MeantWord n ≡ MeantWord z = e in cc); typed = refl }
stood t x v z e _ = absurd (cc)

pub held_word : {layout : Layout} {known : Known} {g : Ghost} {seen : Option Element} {x : Value} {v : Meant} (z : ℤ) → v ≡ MeantWord z → Holds layout known g seen x v → WordHeld (type_seen layout seen) x z
held_word {layout = layout} {seen = seen} {x = x} {v = v} z e (Plain p s) = stood (type_seen layout seen) x v z e s
held_word z e (Alone k n f) = absurd (cc)
held_word z e (Items parts n xs vs s f t is all) = absurd (cc)
held_word z e (Listed n i k f t s home) = absurd (cc)
held_word z e (Mapped n i m k f t s home) = absurd (cc)
held_word z e (Made class r c i s f b home) = absurd (cc)
held_word z e (Function fs r f n s k b l y) = absurd (cc)
held_word z e (Missing k n f) = absurd (cc)

-- ---- names

pub bytes_are : (bytes : List ℕ) → bytes_of (map Byte bytes) ≡ Some bytes
bytes_are [] = refl
bytes_are (b ∷ bytes) = ap (before (Some b)) (bytes_are bytes)

-- ---- variables

-- the variables, one by one
pub record Two (vars : List Value) : Type 0 where
  pub a : Value
  pub b : Value
  pub are : vars ≡ a ∷ b ∷ []

pub record Four (vars : List Value) : Type 0 where
  pub a : Value
  pub b : Value
  pub c : Value
  pub d : Value
  pub are : vars ≡ a ∷ b ∷ c ∷ d ∷ []

two : (vars : List Value) → length vars ≡ 2 → Two vars
two (a ∷ b ∷ []) h = record { a = a; b = b; are = refl }
two [] h = absurd (cc)
two (a ∷ []) h = absurd (cc)
two (a ∷ b ∷ c ∷ rest) h = absurd (let e : suc (suc (suc (length rest))) ≡ 2 = h in omega (arith, e))

four : (vars : List Value) → length vars ≡ 4 → Four vars
four (a ∷ b ∷ c ∷ d ∷ []) h = record { a = a; b = b; c = c; d = d; are = refl }
four [] h = absurd (cc)
four (a ∷ []) h = absurd (cc)
four (a ∷ b ∷ []) h = absurd (cc)
four (a ∷ b ∷ c ∷ []) h = absurd (cc)
four (a ∷ b ∷ c ∷ d ∷ e ∷ rest) h = absurd (let k : suc (suc (suc (suc (suc (length rest))))) ≡ 4 = h in omega (arith, k))

module _ (s : Setting) (w : MeantWorld) (later : Core) (g : Ghost) (stands : Represents s.around.layout s.known g w.heap w.left later.blocks later.statics) where
  -- ---- what is given

  -- without exceptions
  plainly : (number : ℕ) (z : ℤ) (a b : Value) → Over s (Returned z) w (Returning (Word z) (waits number (Some 1) None (a ∷ b ∷ []) ∷ []) later)
  plainly number z a b = record {
    last = Returning (Word z) [] (record later { function = number; block = 0; at = 2; vars = a ∷ Word z ∷ [] });
    way = record { most = 0; leads = on (one refl refl) (one refl refl) };
    core = record later { function = number; block = 0; at = 2; vars = [] };
    ends = refl;
    memory = (g, (later.statics, stands));
  }

  module _ (number called arguments list : ℕ) (into : Option ℕ) (l : Laid) (has : slice_get s.low.graphs number ≡ Some (graph_to called into arguments list (Some l))) (a b c d : Value) where
    -- where exceptions are caught
    past : (z : ℤ) → into ≡ Some 1 → Over s (Returned z) w (Returning (Word z) (waits number (Some 1) (Some l) (a ∷ b ∷ c ∷ d ∷ []) ∷ []) later)
    past z e = record {
      last = Returning (Word z) [] (record later { function = number; block = 2; at = 0; vars = a ∷ Word z ∷ c ∷ d ∷ [] });
      way = record {
        most = 0;
        leads = on (one refl refl)
            (on (one (ap (λ o. begins [] (record later { function = number; block = 0; at = 2; vars = a ∷ Word z ∷ c ∷ d ∷ [] }) 2 (Word z ∷ []) (block_in o 2)) has) refl)
            (one refl refl));
      };
      core = record later { function = number; block = 2; at = 0; vars = [] };
      ends = refl;
      memory = (g, (later.statics, stands));
    }

    -- ---- what is thrown

    -- one is caught, its vtable is read, and the name in that
    caught : (x y : Value) (block table : Memory) (name : List ℕ) → begins_with (shapes_of s.low.structs) block.kind l.root ≡ true → begins_with (shapes_of s.low.structs) table.kind l.vtable ≡ true → place (shape_at (shapes_of s.low.structs) l.root) 0 ≡ 0
        → found later.blocks later.statics x ≡ Some block → found later.blocks later.statics y ≡ Some table → read block.fields 0 ≡ y → bytes_of table.items ≡ Some name
        → Over s (RaisedAs name) w (Throwing x (waits number into (Some l) (a ∷ b ∷ c ∷ d ∷ []) ∷ []) later)
    caught x y block table name block_in_root table_in_vtable at block_is table_is vtable_is name_is =
        let there : Core = record later { function = number; block = 1; at = 0; vars = a ∷ b ∷ x ∷ d ∷ [] } in
        let set : is_unset x ≡ false = found_set later.blocks later.statics x block block_is in
        record {
          last = At [] (exit.Raised 3) [] (after there 3 y);
          way = record {
            most = 0;
            leads = (on (one (ap (λ u. cond (u || false) (Sticks IsUnset) (begins [] (record later { function = number; block = 0; at = 2; vars = a ∷ b ∷ x ∷ d ∷ [] }) 1 (x ∷ []) (block_in (slice_get s.low.graphs number) 1))) set
                ∙ ap (λ o. begins [] (record later { function = number; block = 0; at = 2; vars = a ∷ b ∷ x ∷ d ∷ [] }) 1 (x ∷ []) (block_in o 1)) has) refl)
                (reads_part block y block_in_root block_is (found_set later.blocks later.statics y table table_is) 0 0 at vtable_is));
          };
          core = after there 3 y;
          ends = ap (λ o. goes_on (At [] (exit.Raised 3) []) (raised_of (after there 3 y) (shapes_of s.low.structs) (type_in o 3) y)) has
              ∙ ap (λ r. goes_on (At [] (exit.Raised 3) []) (on_block (λ block. raised_as (after there 3 y) (bytes_of block.items)) r)) (reach_as s.low (after there 3 y) y l.vtable table table_in_vtable table_is)
              ∙ ap (λ n. goes_on (At [] (exit.Raised 3) []) (raised_as (after there 3 y) n)) name_is;
          memory = (g, (later.statics, stands));
        }

-- ---- the entry point

module _ (world : World) (s : Setting) (number arguments : ℕ) (vars : List Value) (has : HasEntry world s number arguments) (many : HasVariables world vars) where
  abbrev entry : ℕ
  entry = s.known.program.entry

  abbrev into : Option ℕ
  into = into_of (result_of world.around entry)

  abbrev list : ℕ
  list = world.around.layout.first_list

  graph_is : (o : Option Laid) → laid world 0 ≡ o → slice_get s.low.graphs number ≡ Some (graph_to (number_of world entry) into arguments list o)
  unfolding entry_graph
  graph_is o e = has.graph ∙ ap (λ o. Some (graph_to (number_of world entry) into arguments list o)) e

  module _ (later : Core) (g : Ghost) (x : Value) (w : MeantWorld) (stands : Represents s.around.layout s.known g w.heap w.left later.blocks later.statics) where
    -- ---- a word is given

    given : (z : ℤ) → into ≡ Some 1 → (o : Option Laid) → laid world 0 ≡ o → length vars ≡ length (types list o) → Over s (Returned z) w (Returning (Word z) (waits number (Some 1) o vars ∷ []) later)
    given z e None h n = (let k = two vars n in subst (λ vs. Over s (Returned z) w (Returning (Word z) (waits number (Some 1) None vs ∷ []) later)) (sym k.are) (plainly s w later g stands number z k.a k.b))
    given z e (Some l) h n =
        let k = four vars n in
        subst (λ vs. Over s (Returned z) w (Returning (Word z) (waits number (Some 1) (Some l) vs ∷ []) later)) (sym k.are) (past s w later g stands number (number_of world entry) arguments list into l (graph_is (Some l) h) k.a k.b k.c k.d z e)

    word_given : (z : ℤ) → WordHeld (type_seen s.around.layout (slice_get s.around.results entry)) x z → Over s (Returned z) w (Returning x (entry_waits world s.known number vars ∷ []) later)
    word_given z it =
        let typed : result_of world.around entry ≡ type.Signed = ap (λ around. result_of around entry) (sym has.around) ∙ it.typed in
        let e : into ≡ Some 1 = ap into_of typed in
        subst (λ x. Over s (Returned z) w (Returning x (entry_waits world s.known number vars ∷ []) later)) (sym it.low)
        (subst (λ i. Over s (Returned z) w (Returning (Word z) (waits number i (laid world 0) vars ∷ []) later)) (sym e) (given z e (laid world 0) refl many))

    gives : (v : Meant) → Holds s.around.layout s.known g (slice_get s.around.results entry) x v → OverIf s (returned v) w (Returning x (entry_waits world s.known number vars ∷ []) later)
    gives (MeantWord z) h = word_given z (held_word z refl h)
    gives _ h = tt

    -- ---- an exception is thrown

    module _ (r class : ℕ) (home : slice_get g.homes r ≡ Some (record { sort = InstanceOf class; head = x })) (below : is_below s.known.program.classes class 0 ≡ true) where
      here : InstanceAt s.around.layout s.known g w.heap later.blocks later.statics class r x
      here = stands.instances class r x home

      is_laid : laid world class ≡ Some here.laid
      is_laid = ap (λ around. laid_in around.layout.classes class) (sym has.around) ∙ here.is_laid

      module _ (c : Class) (is : slice_get s.known.program.classes class ≡ Some c) (l : Laid) (top : laid world 0 ≡ Some l) where
        abbrev table : Memory
        table = vtable_block here.laid.vtable (s.known.vtable class)

        abbrev same_structs : (here.laid.root ≡ l.root) × (here.laid.vtable ≡ l.vtable)
        same_structs = (let i = has.out.inherits class 0 here.laid l (sym (has.of.below class 0) ∙ below) is_laid top in (i.0, i.1))

        throws_it : length vars ≡ length (types list (Some l)) → Over s (RaisedAs c.name) w (Throwing x (waits number into (Some l) vars ∷ []) later)
        throws_it n =
            let k = four vars n in
            let root = has.out.root 0 l top in
            let vtable = has.out.vtable 0 l top in
            let root_in : begins_with (shapes world.around.layout) here.laid.own l.root ≡ true = subst (λ n. begins_with (shapes world.around.layout) here.laid.own n ≡ true) same_structs.0 (has.out.root class here.laid is_laid).1 in
            let table_in : begins_with (shapes world.around.layout) here.laid.vtable l.vtable ≡ true = subst (λ n. begins_with (shapes world.around.layout) n l.vtable ≡ true) (sym same_structs.1) vtable.1 in
            let bound : here.laid.vtable < length world.around.layout.structs = subst (λ n. n < length world.around.layout.structs) (sym same_structs.1) vtable.0.struct in
            let table_is : found later.blocks later.statics (s.known.vtable class).at ≡ Some table = stands.stays (s.known.vtable class).at table (stands.vtables class here.laid here.is_laid) in
            subst (λ vs. Over s (RaisedAs c.name) w (Throwing x (waits number into (Some l) vs ∷ []) later)) (sym k.are)
            (caught s w later g stands number (number_of world entry) arguments list into l (graph_is (Some l) top) k.a k.b k.c k.d x (s.known.vtable class).at (record { kind = here.laid.own; fields = here.fields; items = [] }) table c.name
            (begins_in s.low world l.root here.laid.own has.structs (has.out.class class here.laid is_laid).1 root_in) (begins_in s.low world l.vtable here.laid.vtable has.structs bound table_in)
            (place_in_struct s.low world l.root 0 has.structs root.0.struct ∙ zero_place world.around.layout l.root root.0) here.block_is table_is here.vtable
            (ap bytes_of (has.names class here.laid c is_laid is) ∙ bytes_are c.name))

      named : (o : Option Class) → slice_get s.known.program.classes class ≡ o → OverIf s (name_of o) w (Throwing x (entry_waits world s.known number vars ∷ []) later)
      named None e = tt
      named (Some c) e =
          let top = has.top class here.laid is_laid below in
          subst (λ o. Over s (RaisedAs c.name) w (Throwing x (waits number into o vars ∷ []) later)) (sym top.1) (throws_it c e top.0 top.1 (many ∙ ap (λ o. length (types list o)) top.1))

      throws : OverIf s (name_of (slice_get s.known.program.classes (class_in w r))) w (Throwing x (entry_waits world s.known number vars ∷ []) later)
      throws =
          let c : class_in w r ≡ class = ap class_of here.object in
          subst (λ n. OverIf s (name_of (slice_get s.known.program.classes n)) w (Throwing x (entry_waits world s.known number vars ∷ []) later)) (sym c) (named (slice_get s.known.program.classes class) refl)

pub entry_points_end : EntryPointsEnd
entry_points_end world s number arguments vars has many = record {
  back = λ later g x v w stands left holds. gives world s number arguments vars has many later g x w stands v holds;
  throws = λ later g x r class w stands left home below. throws world s number arguments vars has many later g x w stands r class home below;
}

pub entry_points_are_entries : EntryPointsAreEntries
entry_points_are_entries world s number arguments vars has many =
    let it = entry_points_end world s number arguments vars has many in
    record { back = it.back; throws = λ later g x r w stands left is. it.throws later g x r is.class w stands left is.home is.above }

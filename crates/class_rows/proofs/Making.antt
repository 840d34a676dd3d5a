-- Instances that are made.
use Rattle.std.proofs.Common.{◌≡◌, ◌<◌, ◌≤◌, ◌⊎◌, inl, inr, ◌||◌, ℕ, ◌-◌, Bool, true, false, List, [], ◌∷◌, ◌++◌, length, map, Option, Some, None, refl, sym, ap, ◌∙◌, subst, arith, codes}
use Rattle.std.proofs.lemmas.Bool.Decides.{nat_tests}
use Rattle.std.specs.Prelude.{nat_lt, is_some, if◌then◌else◌, unwrap_or, slice_get}
use Rattle.ann_element.specs.declared.element.Element.TheVariants as element
use Rattle.ann_lattice.specs.Join.{is_clash}
use Rattle.ann_lattice.specs.Order as order
use Rattle.ann_lattice.specs.Order.{Below, Sub}
use Rattle.ann_lattice.specs.Row.{takes_arguments}
use Rattle.ann_lattice.specs.Shape.{Shape, Inst, shape}
use Rattle.class_desc.specs.Line as line
use Rattle.class_desc.specs.Tables.{Tables}
use Rattle.csub_tree.specs.State.{Value, Core}
use Rattle.flow_graph.specs.declared.graph.Graph.{Graph}
use Rattle.flow_graph.specs.declared.graph.Op.{Op}
use Rattle.ll_code.specs.State.{Frame, State, At}
use Rattle.ll_code.specs.declared.program.LlExit.{LlExit}
use Rattle.ll_code.specs.declared.program.LlOp.{LlOp}
use Rattle.ll_code.specs.declared.program.LlOp.TheVariants as op
use Rattle.ll_code.specs.declared.program.LlProgram.{LlProgram}
use Rattle.ll_code.specs.declared.program.LlType.TheVariants as type
use Rattle.ll_leads.proofs.Joined.{leads_more}
use Rattle.rpy_meaning.specs.Classes.{first_attributes, is_below as is_below_meant, method_of}
use Rattle.rpy_meaning.specs.Costs.{instance_cost}
use Rattle.rpy_meaning.specs.declared.row.Covers.{Covers}
use Rattle.rpy_meaning.specs.declared.row.RowOp.TheVariants as row
use Rattle.rpy_meaning.specs.Operations.{op as meant_op, builtin_classes, initialised, new_instance}
use Rattle.rpy_meaning.specs.Tree.{Program}
use Rattle.rpy_meaning.specs.World.{World as MeantWorld, Answer, Gives, Throws, Fails, Lacks, Enters, Bad, give, paying}
use Rattle.rpy_tree.specs.Value.{Value as Meant, Heap, Ref, Instance}
use Rattle.rpy_tree.specs.declared.program.ClassInfo.{ClassInfo}
use Rattle.rtyper_class.specs.Calls.{init_if, new, new_by, new_of}
use Rattle.rtyper_class.specs.Lowering.{lower_class_op, lowered}
use Rattle.rtyper_class.specs.Instances.{builtin_instance}
use Rattle.rtyper_class.specs.Seen.{World, laid}
use Rattle.rtyper_data.specs.Converting.{give as give_lowered, landing}
use Rattle.rtyper_data.specs.Finding.{small_number}
use Rattle.rtyper_data.specs.Seen.{Around, Operand, Place, Writing, type_at, with_op, writing}
use Rattle.rtyper_data.specs.declared.body.Body.{Body}
use Rattle.rtyper_data.specs.declared.small.Small.TheVariants as small
use Rattle.rtyper_layout.specs.Types.{root_of, type_seen}
use Rattle.rtyper_layout.specs.declared.classes.Laid.{Laid}
use Rattle.rtyper_list.specs.Lowering.{lower_list_op}
use Rattle.rtyper_op.specs.Lowering.{is_never}
use Rattle.rtyper_program.specs.Blocks.{op_of}
use Rattle.rtyper_program.specs.Graphs.{variables}
use Rattle.rtyper_program.specs.Seen.{Lowered, place_of}
use Rattle.lower_laws.specs.Asked.{Ask, Make}
use Rattle.object_laws.specs.Done.{AllAsked, Follows, references}
use Rattle.object_laws.specs.Ghost.{Ghost}
use Rattle.object_laws.specs.Known.{Known}
use Rattle.object_laws.proofs.Valued.{instance_type}
use Rattle.class_laws.specs.Done.{IsDone}
use Rattle.class_laws.proofs.Making.{builtins_are_given, instances_are_made as made_of}
use Rattle.conversion_laws.specs.Ordered.{IsLaid}
use Rattle.growth_laws.specs.Growing.{Grows}
use Rattle.helper_stands.specs.Asks.{MayBeAsked}
use Rattle.rtyped_laws.specs.Objects.{OfClasses}
use Rattle.rtyped_runs.specs.Laws.{args_of, before}
use Rattle.rtyped_runs.specs.Parts.{OpIsWritten}
use Rattle.sound_rows.proofs.Classes.{same_method}
use Rattle.sound_rows.specs.Sound.{Fits}
use Rattle.typed_rows.specs.Programs.{Typed, IsTyped, first, last, layout, same, setting, world}
use Rattle.typed_rows.specs.Rows.{IsOp, lowered_in}
use Rattle.class_rows.specs.Classes.{InstancesAreMade, IsPlain}
use Rattle.class_rows.proofs.Common.{ThrowsBuiltin, all_come, as_done, classes_write}
use Rattle.class_rows.proofs.Fitting.{given_so, plain as plain_of}
use Rattle.class_rows.proofs.Shapes.{class_laid, instance_at}

few_or_more : (a b : ℕ) → (a < b) ⊎ (b ≤ a)
few_or_more a b = by (nat_lt a b) refl
  where
    by : (c : Bool) → nat_lt a b ≡ c → (a < b) ⊎ (b ≤ a)
    by true h = inl (grind (arith, nat_tests, h))
    by false h = inr (grind (arith, nat_tests, h))

-- ---- more may be written

module _ (blocks : ℕ) (known : Known) (around : Around) (place : Place) (p : LlProgram) (args : List (List ℕ)) (s : State) (rest : List LlOp) (e : LlExit) (frames : List Frame) (core : Core) (g : Ghost) (raised : ℕ → Value) (below : ℕ) (w : MeantWorld) where
  more_follows : (few many : ℕ) → few ≤ many → (answer : Answer) → Follows blocks known around place p args s rest e frames core g raised few below w answer → Follows blocks known around place p args s rest e frames core g raised many below w answer
  more_follows few many le (Gives v w') c = record {
    end = c.end;
    text = c.text;
    leads = leads_more few many le c.leads;
    ghost = c.ghost;
    grown = c.grown;
    stands = c.stands;
    holds = c.holds;
    few = c.few;
    memory = c.memory;
    others = c.others;
    room = c.room;
    function = c.function;
    block = c.block;
    out = c.out;
  }
  more_follows few many le (Throws r w') c = c
  more_follows few many le (Fails name) c = c
  more_follows few many le Lacks c = c
  more_follows few many le (Enters f vs instead w') c = c
  more_follows few many le Bad c = c

-- ---- arguments that are left out

module _ (world : World) (known : Known) (class : ℕ) (l : Laid) (laid_as : laid world class ≡ Some l) (plain : (class < builtin_classes) ⊎ ((builtin_classes ≤ class) × (line.init world.classes.classes class ≡ None) × (method_of known.program.classes class (codes "__init__") ≡ None))) where
  abbrev Built : Place → Writing → Writing
  Built place w = give_lowered world.around place (builtin_instance world class) (type.Ptr l.root) w

  abbrev Landed : Place → Writing → ℕ × Body
  Landed place w = landing world.around place (type.Ptr l.root) w.body

  abbrev Calling : Place → Writing → Writing
  Calling place w = writing (small_number (small.New class) w.found).1 (with_op (op.Call (Some (Landed place w).0) (small_number (small.New class) w.found).0 []) (Landed place w).1)

  same_new : (place : Place) (args : List Operand) (w : Writing) → new world place class args w ≡ new world place class [] w
  unfolding new
  same_new place args w = ap (λ o. new_by world place class args o w) laid_as ∙ by plain ∙ sym (ap (λ o. new_by world place class [] o w) laid_as)
    where
      by : (class < builtin_classes) ⊎ ((builtin_classes ≤ class) × (line.init world.classes.classes class ≡ None) × (method_of known.program.classes class (codes "__init__") ≡ None)) → new_by world place class args (Some l) w ≡ new_by world place class [] (Some l) w
      by (inl few) =
          let is : nat_lt class 13 ≡ true = grind (arith, nat_tests, few) in
          ap (λ b. if b then Built place w else new_of world place class args (type.Ptr l.root) w) is ∙ sym (ap (λ b. if b then Built place w else new_of world place class [] (type.Ptr l.root) w) is)
      by (inr h) = ap (λ (made : Writing). if nat_lt class 13 then Built place w else made) (without args ∙ sym (without []))
        where
          without : (args : List Operand) → new_of world place class args (type.Ptr l.root) w ≡ Calling place w
          without args = ap (λ i. init_if world.around (Landed place w).0 place i args (Calling place w)) h.1

  same_written : (place : Place) (args : List Operand) (w : Writing) → is_never args ≡ false → lower_class_op world (row.New class) place args w ≡ lower_class_op world (row.New class) place [] w
  unfolding lowered
  same_written place args w comes = ap (λ b. if b then lower_list_op world.around (row.New class) place args w else lowered world (row.New class) place args w) comes ∙ same_new place args w

  same_meaning : (c : Covers) (vs : List Meant) (w : MeantWorld) → meant_op known.program c (row.New class) vs w ≡ meant_op known.program c (row.New class) [] w
  same_meaning c vs w = by plain
    where
      by : (class < builtin_classes) ⊎ ((builtin_classes ≤ class) × (line.init world.classes.classes class ≡ None) × (method_of known.program.classes class (codes "__init__") ≡ None)) → meant_op known.program c (row.New class) vs w ≡ meant_op known.program c (row.New class) [] w
      by (inl few) =
          let is : nat_lt class builtin_classes ≡ true = grind (arith, nat_tests, few) in
          ap (λ b. (if b then give (Ref class) else paying instance_cost (new_instance known.program c class vs)) w) is ∙ sym (ap (λ b. (if b then give (Ref class) else paying instance_cost (new_instance known.program c class [])) w) is)
      by (inr h) = without vs ∙ sym (without [])
        where
          without : (vs : List Meant) → meant_op known.program c (row.New class) vs w ≡ (if nat_lt class builtin_classes then give (Ref class) else paying instance_cost (λ w. Gives (Ref (length w.heap)) (record w { heap = w.heap ++ Instance class (first_attributes known.program.classes class) ∷ [] }))) w
          without vs = ap (λ m. (if nat_lt class builtin_classes then give (Ref class) else paying instance_cost (λ w. initialised known.program c m (Ref (length w.heap)) vs (record w { heap = w.heap ++ Instance class (first_attributes known.program.classes class) ∷ [] }))) w) h.2

  some_references : (heap : Heap) (vs : List Meant) → references heap [] ≤ references heap vs
  some_references heap [] = omega arith
  some_references heap (v ∷ vs) = (let rest = some_references heap vs in omega (arith, rest))

  with_arguments : (blocks : ℕ) (covers : Covers) (asks : List Ask) (place : Place) (args : List Operand) (w : Writing) → is_never args ≡ false → IsDone blocks world known (row.New class) covers asks place [] w → IsDone blocks world known (row.New class) covers asks place args w
  with_arguments blocks covers asks place args w comes law =
      let made = same_written place args w comes in
      record {
        ops = law.ops;
        new = law.new;
        asked = ap (λ (m : Writing). m.found) made ∙ law.asked;
        written = ap (λ (m : Writing). m.body.ops) made ∙ law.written;
        types = ap (λ (m : Writing). m.body.types) made ∙ law.types;
        follows = λ p numbers raised arguments rest e frames core g meant vs structs has stands left room inside below given good.
            subst (Follows blocks known world.around place p arguments (At (law.ops ++ rest) e frames core) rest e frames core g raised (references meant.heap vs) (length w.body.types) meant) (sym (same_meaning covers vs meant))
            (more_follows blocks known world.around place p arguments (At (law.ops ++ rest) e frames core) rest e frames core g raised (length w.body.types) meant (references meant.heap []) (references meant.heap vs) (some_references meant.heap vs) (meant_op known.program covers (row.New class) [] meant)
            (law.follows p numbers raised arguments rest e frames core g meant [] structs has stands left room inside tt tt tt));
      }

-- ---- nothing is thrown

starts_throws : (p : Program) (c : Covers) (o : Option ℕ) (v : Meant) (vs : List Meant) (w after : MeantWorld) (r : ℕ) → initialised p c o v vs w ≡ Throws r after → ⊥
starts_throws p c None v vs w after r e = absurd (cc)
starts_throws p c (Some f) v vs w after r e = absurd (cc)

pub new_throws : (p : Program) (c : Covers) (class : ℕ) (vs : List Meant) (w after : MeantWorld) (r : ℕ) → meant_op p c (row.New class) vs w ≡ Throws r after → ⊥
new_throws p c class vs w after r e = by (nat_lt class builtin_classes) e
  where
    paid : (b : Bool) → (if b then Lacks else new_instance p c class vs (record w { left = w.left - instance_cost })) ≡ Throws r after → ⊥
    paid true e = absurd (cc)
    paid false e = starts_throws p c (method_of p.classes class (codes "__init__")) (Ref (length w.heap)) vs (record w { left = w.left - instance_cost; heap = w.heap ++ Instance class (first_attributes p.classes class) ∷ [] }) after r e

    by : (b : Bool) → (if b then give (Ref class) else paying instance_cost (new_instance p c class vs)) w ≡ Throws r after → ⊥
    by true e = absurd (cc)
    by false e = paid (nat_lt w.left instance_cost) e

-- ---- the row

-- an instance is below this
pub record AboveInstance (k : List ClassInfo) (c : ℕ) (z : Shape) : Type 0 where
  pub class : ℕ
  pub or_none : Bool
  pub is : z ≡ Inst class or_none
  pub below : Sub k c class

pub above_instance : (k : List ClassInfo) (t : List ℕ) (c : ℕ) (q : Bool) (z : Shape) → Below k t (Inst c q) z → is_clash z ≡ false → AboveInstance k c z
above_instance k t c q _ (order.inst a d b r sub implied) free = record { class = d; or_none = r; is = refl; below = sub }
above_instance k t c q _ (order.clash x o p h j) free = absurd (cc)

module _ (class : ℕ) (t : Typed) (typed : IsTyped t) (n : ℕ) (graph : Graph) (o : Op) (row_is : o.op ≡ row.New class) (is : IsOp t n o) (told : IsPlain class t n o) (w : Writing) (early : Grows (first t) w.found)
    (late : Grows (op_of (lowered_in t n graph) o w).found (last t)) (enough : length (variables t.known (world t) n) ≤ length w.body.types) where
  abbrev l : Lowered
  l = lowered_in t n graph

  abbrev place : Place
  place = place_of l o.result

  abbrev xs : List Shape
  xs = map shape is.elements

  abbrev z : Shape
  z = shape is.result

  fits : Fits t.whole t.assigned n (row.New class) o.node xs z
  fits = subst (λ r. Fits t.whole t.assigned n r o.node xs z) row_is is.fits

  under : Below t.whole.tables.classes t.assigned.same (Inst class false) z
  under = (given_so t.whole t.assigned n o.node (row.New class) xs z fits (is_some (line.init t.whole.tables.classes class) || takes_arguments t.whole.tables.classes class xs) (Inst class false) (plain_of t.whole t.assigned n o.node (row.New class) xs z fits is.some).0).1

  above : AboveInstance t.whole.tables.classes class z
  above = above_instance t.whole.tables.classes t.assigned.same class false z under is.fits.free

  result_at : is.result ≡ element.Instance above.class above.or_none
  result_at = instance_at is.result above.class above.or_none above.is

  place_is : place.element ≡ Some (element.Instance above.class above.or_none)
  place_is = is.result_is ∙ ap Some result_at

  sub : Sub t.classes.classes class above.class
  sub = subst (λ (tables : Tables). Sub tables.classes class above.class) typed.sees.classes_are above.below

  below : is_below_meant t.seen.program.classes class above.class ≡ true
  below = typed.classes.is_of.below class above.class ∙ sub

  top : (k : Laid) × (laid (world t) above.class ≡ Some k)
  top = class_laid {layout = layout t} {same = same t} above.class above.or_none (subst (IsLaid (layout t) (same t)) result_at is.result_laid)

  root_same : told.structs.root ≡ top.0.root
  root_same = typed.classes.families.root class above.class told.structs top.0 sub told.laid_as top.1

  typed_as : type_at (world t).around place ≡ type.Ptr told.structs.root
  typed_as = ap (type_seen (layout t)) place_is ∙ instance_type (layout t) above.class above.or_none ∙ ap root_of top.1 ∙ ap type.Ptr (sym root_same)

  made_so : unwrap_or (slice_get t.known.annotation.made class) false ≡ true
  made_so = sym (typed.sees.made class) ∙ fits.met.0

  comes : is_never (args_of l o) ≡ false
  comes = all_come t n graph o.args is.elements is.are is.some

  builtin : ThrowsBuiltin t typed n graph o w early late
  builtin vs meant after x e = absurd (new_throws t.seen.program o.covered class vs meant after x (ap (λ p. meant_op t.seen.program o.covered p vs meant) (sym row_is) ∙ e))

  writes : (blocks : ℕ) (asks : List Ask) → AllAsked (MayBeAsked OfClasses) asks (before o w).found → IsDone blocks (world t) t.seen (row.New class) o.covered asks place (args_of l o) (before o w) → OpIsWritten (setting t) l o w
  writes blocks asks may law = classes_write t typed n graph o w early late is enough builtin blocks asks may (as_done t typed n graph o w early late (row.New class) (args_of l o) row_is refl refl blocks asks law)

  by_class : (class < builtin_classes) ⊎ (line.init t.classes.classes class ≡ None) → (class < builtin_classes) ⊎ (builtin_classes ≤ class) → OpIsWritten (setting t) l o w
  by_class plain (inl few) =
      writes 0 [] tt (with_arguments (world t) t.seen class told.structs told.laid_as (inl few) 0 o.covered [] place (args_of l o) (before o w) comes
      (builtins_are_given (world t) t.seen typed.classes.is_of place (before o w) class above.class above.or_none told.structs o.covered few told.laid_as place_is below typed_as))
  by_class (inl few) (inr more) = absurd (omega (arith, few, more))
  by_class (inr none) (inr more) =
      let meant_none : method_of t.seen.program.classes class (codes "__init__") ≡ None = same_method t.whole t.seen.program typed.classes.sees class (codes "__init__") ∙ ap (λ (tables : Tables). line.method tables.classes class (codes "__init__")) typed.sees.classes_are ∙ none in
      writes 1 (Make (small.New class) ∷ []) (tt, tt) (with_arguments (world t) t.seen class told.structs told.laid_as (inr (more, none, meant_none)) 1 o.covered (Make (small.New class) ∷ []) place (args_of l o) (before o w) comes
      (made_of (world t) t.seen typed.classes.is_of typed.classes.out place (before o w) class above.class above.or_none told.structs o.covered more told.laid_as (typed.classes.starts class more made_so) none meant_none place_is below typed_as))

  pub written : OpIsWritten (setting t) l o w
  written = by_class told.plain (few_or_more class builtin_classes)

pub instances_are_made : InstancesAreMade
instances_are_made class t typed n graph o row_is is told w early late enough = written class t typed n graph o row_is is told w early late enough

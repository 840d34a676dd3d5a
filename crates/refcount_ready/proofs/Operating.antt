-- Each operation of a state of a run is ready.
use Rattle.std.proofs.Common.{◌≡◌, ⊎_elim, ◌<◌, ℕ, zero, suc, ◌+◌, ◌-◌, true, false, ◌&&◌, ◌==◌, List, [], ◌∷◌, ◌++◌, length, Option, Some, None, refl, sym, ap, ◌∙◌, subst, arith}
use Rattle.std.specs.Prelude.{slice_get, is_some}
use Rattle.csub_tree.specs.State.{Value, Ptr, Core}
use Rattle.csub_tree.specs.Layout.{shape_at, shape_over, base_of, place, begins_with}
use Rattle.csub_tree.specs.Operation.{is_unset}
use Rattle.csub_tree.specs.Statement.{read, operand}
use Rattle.csub_tree.specs.declared.tree.COperand.{COperand}
use Rattle.ll_code.specs.Machine.{shapes_of}
use Rattle.ll_code.specs.Typed as typed
use Rattle.ll_code.specs.Typed.{IsWellTyped, takes, has_given, given_takes, all_given, all_taken, field_of, own_field, items_of, has_type, begins, operation_ok, call_ok}
use Rattle.ll_code.specs.declared.program.LlType.{LlType}
use Rattle.ll_code.specs.declared.program.LlType.TheVariants as type
use Rattle.ll_code.specs.declared.program.LlStruct.{LlStruct}
use Rattle.ll_code.specs.declared.program.LlOp.{LlOp}
use Rattle.ll_code.specs.declared.program.LlOp.TheVariants as op
use Rattle.ll_code.specs.declared.program.LlGraph.{LlGraph}
use Rattle.ll_code.specs.declared.program.LlProgram.{LlProgram}
use Rattle.ll_held.proofs.Keeping.{or_right}
use Rattle.ll_laws.specs.Fits.{Fits, CoreFits, exception}
use Rattle.ll_laws.specs.Fields.{fields_at, fields_from}
use Rattle.ll_laws.proofs.Cells.{Laid, all_laid}
use Rattle.ll_laws.proofs.Operations.{any_pointer}
use Rattle.ll_laws.proofs.Values.{and_left, and_right, is_same, is_less, has_type_is}
use Rattle.ll_live.specs.Live.{among, reads, variables_of, variables_in}
use Rattle.ll_points.specs.Agrees.{Slots, Agrees, op_agrees, graphs_agree}
use Rattle.ll_points.specs.Points.{Leads, AllLead, MemoryLeads, SlotsLead}
use Rattle.ll_points.proofs.Shapes.{begins_so}
use Rattle.refcount_transform.specs.Plan.{plan_of, is_counted, root_of, field_number, referred, reference_to, reference_given, field_referred, items_referred, place_of, place_behind, no_slots}
use Rattle.refcount_transform.specs.Changes.{around_of, var_referred, operand_referred}
use Rattle.refcount_laws.specs.Before.{MayStand, MayTakeField, MayTakeItem}
use Rattle.refcount_laws.specs.Ghost.{Ghost, one}
use Rattle.refcount_laws.specs.Leaves.{AllPoint}
use Rattle.refcount_laws.specs.Made.{counts_of, place_in, all_lead}
use Rattle.refcount_laws.specs.Matches.{AllRoots, PointsTo}
use Rattle.refcount_laws.specs.Owned.{Roomy}
use Rattle.refcount_laws.specs.Ready.{MayBeGiven, KeepsNumber, MayMake, MayTakeSlot}
use Rattle.refcount_laws.specs.Slots.{SlotLeads}
use Rattle.refcount_laws.specs.Whole.{ReadyBy}
use Rattle.refcount_laws.proofs.Numbers.{Based}
use Rattle.refcount_laws.proofs.Places.{reference_marked}
use Rattle.refcount_laws.proofs.Shapes.{Begins, Itself, ByBase, begins_by, shape_is}
use Rattle.refcount_laws.proofs.Spread.{begin, own_at, begin_is}
use Rattle.refcount_typed.specs.Leads.{LeadsToRoots}
use Rattle.refcount_typed.specs.Numbered.{HasNumbers}
use Rattle.refcount_typed.proofs.Fields.{reference_is, given_root}
use Rattle.refcount_typed.proofs.Numbering.{number_first_is}
use Rattle.refcount_checks.specs.Countable.{most, is_number, call_countable, result_of, is_countable}
use Rattle.refcount_ready.specs.Along.{WritesBlocks, MakesShort}
use Rattle.refcount_ready.proofs.Tests.{Stands, op_test, unread, all_roots, op_lead_test}
use Rattle.refcount_ready.proofs.Pointers.{Sound, begins_counted, counted_refers, points, sound_points}
use Rattle.refcount_ready.proofs.Slots.{slots_found_or_not, slots_not_found}
use Rattle.refcount_ready.proofs.Keeps.{CoreKeeps, NumberNext}
use Rattle.refcount_ready.proofs.Doing.{field_is, items_is}
use Rattle.refcount_ready.proofs.Stepping.{based, made_by_it, slots_set, free_disagrees, raise_disagrees}
use Rattle.refcount_ready.proofs.Operands.{among_first, among_second, may_stand, operand_is_sound, operand_points, field_sound, item_sound}

pub one_same : (m : ℕ) → one m m ≡ 1
one_same zero = refl
one_same (suc m) = one_same m

types_inside : (types : List LlType) (a : ℕ) (t : LlType) → slice_get types a ≡ Some t → a < length types
types_inside [] a t e = absurd (cc)
types_inside (x ∷ types) zero t e = omega arith
types_inside (x ∷ types) (suc a) t e = omega (arith, types_inside types a t e)

there_at : (l : List LlStruct) (n : ℕ) → n < length l → (s : LlStruct) × (slice_get l n ≡ Some s)
there_at [] n h = absurd (omega (arith, h))
there_at (x ∷ l) zero h = (x, refl)
there_at (x ∷ l) (suc n) h = there_at l n (omega (arith, h))

-- ---- which field is the number

module _ (p : LlProgram) (ok : IsWellTyped p) (based : Based p.structs) where
  abbrev laid : Laid p.structs (shapes_of p.structs) (fields_from [] p.structs)
  laid = all_laid p.structs (and_left _ _ (and_left _ _ (and_left _ _ ok)))

  get_inside : {A : Type 0} (l : List A) (k : ℕ) (x : A) → slice_get l k ≡ Some x → k < length l
  get_inside [] k x e = absurd (cc)
  get_inside (y ∷ l) zero x e = omega arith
  get_inside (y ∷ l) (suc k) x e = omega (arith, get_inside l k x e)

  -- where the first field of a struct's own stands, field i of the struct is the first
  first_place : (n i : ℕ) (s : LlStruct) (t : LlType) (c : is_counted (plan_of p) n ≡ true) (e : slice_get p.structs n ≡ Some s) → field_of (slice_get p.structs n) i ≡ Some t → place (shape_at (shapes_of p.structs) n) i ≡ begin p based n s e c + 0 → place_of (plan_of p) n i ≡ 0
  first_place n i s t c e f h = by s.base refl
    where
      shape : shape_at (shapes_of p.structs) n ≡ shape_over n (length s.fields) (base_of (shapes_of p.structs) s.base)
      shape = shape_is p.structs based n s e

      number : (o : Option ℕ) → s.base ≡ o → place_of (plan_of p) n i ≡ place_behind o i
      number o b = ap (λ o. place_behind (typed.base_of o) i) e ∙ ap (λ o. place_behind o i) b

      by : (o : Option ℕ) → s.base ≡ o → place_of (plan_of p) n i ≡ 0
      by None b =
          let x : shape_at (shapes_of p.structs) n ≡ shape_over n (length s.fields) None = shape ∙ ap (λ o. shape_over n (length s.fields) (base_of (shapes_of p.structs) o)) b in
          let y : begin p based n s e c ≡ 0 = ap (λ x. x.own) x in
          let z : place (shape_at (shapes_of p.structs) n) i ≡ 0 + (i - 0) = ap (λ x. place x i) x in
          number None b ∙ (let w : i ≡ 0 = omega (arith, h, y, z) in w)
      by (Some m) b = at_base i f h (number (Some m) b)
        where
          x : shape_at (shapes_of p.structs) n ≡ shape_over n (length s.fields) (base_of (shapes_of p.structs) (Some m))
          x = shape ∙ ap (λ o. shape_over n (length s.fields) (base_of (shapes_of p.structs) o)) b

          at_base : (i : ℕ) → field_of (slice_get p.structs n) i ≡ Some t → place (shape_at (shapes_of p.structs) n) i ≡ begin p based n s e c + 0 → place_of (plan_of p) n i ≡ place_behind (Some m) i → place_of (plan_of p) n i ≡ 0
          at_base zero f h g = g
          at_base (suc j) f h g =
              let y : begin p based n s e c ≡ (shape_at (shapes_of p.structs) m).size = begin_is p based n s e c m b in
              let z : place (shape_at (shapes_of p.structs) n) (suc j) ≡ (shape_at (shapes_of p.structs) m).size + (suc j - 1) = ap (λ x. place x (suc j)) x in
              g ∙ (let w : j ≡ 0 = omega (arith, h, y, z) in w)

  -- a field of a struct that is written is the number of an array of references where it stands in its place
  pub number_is : (kind n i m : ℕ) (t : LlType) → is_counted (plan_of p) kind ≡ true → begins_with (shapes_of p.structs) kind n ≡ true → items_referred (plan_of p) kind ≡ Some m → (counts_of (plan_of p)).number_at kind ≡ place (shape_at (shapes_of p.structs) n) i
      → field_of (slice_get p.structs n) i ≡ Some t → is_number (plan_of p) n i ≡ true
  number_is kind n i m t c begins items h f = by (begins_by p.structs based kind n begins)
    where
      by : Begins p.structs based kind n → is_number (plan_of p) n i ≡ true
      by (Itself s e q) =
          let same : items_referred (plan_of p) n ≡ Some m = ap (items_referred (plan_of p)) q ∙ items in
          let cn : is_counted (plan_of p) n ≡ true = ap (is_counted (plan_of p)) q ∙ c in
          let en : slice_get p.structs n ≡ Some s = ap (slice_get p.structs) q ∙ e in
          let z : place_in (plan_of p) n (field_number (plan_of p) n 0) ≡ begin p based n s en cn + 0 = own_at p based n s en cn 0 in
          let hn : place_in (plan_of p) n (field_number (plan_of p) n 0) ≡ place (shape_at (shapes_of p.structs) n) i = ap (λ k. place_in (plan_of p) k (field_number (plan_of p) k 0)) q ∙ h in
          ap (λ o. is_some o && (place_of (plan_of p) n i == 0)) same ∙ ap (λ k. k == 0) (first_place n i s t cn en f (sym hn ∙ z))
      by (ByBase b w l x) =
          let z : place_in (plan_of p) kind (field_number (plan_of p) kind 0) ≡ begin p based kind w.s w.is c + 0 = own_at p based kind w.s w.is c 0 in
          let y : begin p based kind w.s w.is c ≡ (shape_at (shapes_of p.structs) b).size = begin_is p based kind w.s w.is c b w.base in
          let lt : place (shape_at (shapes_of p.structs) n) i < length (fields_at (fields_from [] p.structs) b) = get_inside (fields_at (fields_from [] p.structs) b) (place (shape_at (shapes_of p.structs) n) i) t (laid.field b n i t x f) in
          let size : (shape_at (shapes_of p.structs) b).size ≡ length (fields_at (fields_from [] p.structs) b) = laid.size b in
          absurd (omega (arith, z, y, lt, size, h))

module _ (p : LlProgram) (ok : IsWellTyped p) (slots : Slots) (agrees : Agrees slots p) (leads : LeadsToRoots p) (numbers : HasNumbers p) (countable : is_countable p ≡ true) (graph : LlGraph) (core : Core) (fit : CoreFits p graph.types core) (lead : AllLead p core.blocks core.statics graph.types core.vars) (memory : MemoryLeads p slots core) (keeps : CoreKeeps p core) where
  based_ : Based p.structs
  based_ = based p ok slots agrees leads countable

  -- ---- the exception slots

  pub slot_leads : (SlotLeads p core (plan_of p).slots.kind core.exc_type) × SlotLeads p core (plan_of p).slots.value core.exc_value
  slot_leads = by slots agrees memory.held
    where
      unset : (s : Slots) → graphs_agree s p.graphs ≡ true → (plan_of p).slots ≡ no_slots (length p.graphs) → (SlotLeads p core (plan_of p).slots.kind core.exc_type) × SlotLeads p core (plan_of p).slots.value core.exc_value
      unset s agrees e = (λ n h. absurd (let z : None ≡ Some n = sym (ap (λ s. s.kind) e) ∙ h in cc), λ n h. absurd (let z : None ≡ Some n = sym (ap (λ s. s.value) e) ∙ h in cc))

      one_leads : (k : ℕ) (value : Value) (slot : Option ℕ) → slot ≡ reference_to (plan_of p).counted (type.Ptr k) → ((n : ℕ) → reference_to (plan_of p).counted (type.Ptr k) ≡ Some n → root_of (plan_of p) n ≡ n)
          → Fits p (length core.blocks) exception value → Leads p core.blocks core.statics k value → is_unset value ≡ false → SlotLeads p core slot value
      one_leads k value slot is root fits leads set n e =
          let r : reference_to (plan_of p).counted (type.Ptr k) ≡ Some n = sym is ∙ e in
          let same : k ≡ n = (let z : type.Ptr k ≡ type.Ptr n = reference_is (plan_of p).counted (type.Ptr k) n r in cc) in
          (reference_marked (plan_of p).counted (type.Ptr k) n r, root n r, points p core.blocks core.statics n value (any_pointer p (length core.blocks) 0 n value fits) (subst (λ k. Leads p core.blocks core.statics k value) same leads) set)

      by : (s : Slots) → graphs_agree s p.graphs ≡ true → SlotsLead p s core → (SlotLeads p core (plan_of p).slots.kind core.exc_type) × SlotLeads p core (plan_of p).slots.value core.exc_value
      by None agrees held = unset None agrees (slots_not_found p agrees)
      by (Some (k, v)) agrees held = ⊎_elim (λ e. unset (Some (k, v)) agrees e)
          (λ found. (one_leads k core.exc_type (plan_of p).slots.kind found.kind found.root_kind fit.memory.slot_type held.0 keeps.set_type, one_leads v core.exc_value (plan_of p).slots.value found.value found.root_value fit.memory.slot_value held.1 keeps.set_value))
          (slots_found_or_not p k v (all_roots p leads) agrees)

  -- what a slot holds may be taken
  slot_type_sound : (a n : ℕ) → op_agrees slots graph.types (op.ExcType a n) ≡ true → Sound p core.blocks core.statics (type.Ptr n) core.exc_type
  slot_type_sound a n h = record { fits = any_pointer p (length core.blocks) 0 n core.exc_type fit.memory.slot_type; leads = by slots memory.held h; set = λ m e. keeps.set_type }
    where
      by : (s : Slots) → SlotsLead p s core → op_agrees s graph.types (op.ExcType a n) ≡ true → Leads p core.blocks core.statics n core.exc_type
      by None held h = subst (Leads p core.blocks core.statics n) (sym held.0) tt
      by (Some (k, v)) held h = subst (λ k. Leads p core.blocks core.statics k core.exc_type) (sym (is_same n k h)) held.0

  slot_value_sound : (a n : ℕ) → op_agrees slots graph.types (op.ExcValue a n) ≡ true → Sound p core.blocks core.statics (type.Ptr n) core.exc_value
  slot_value_sound a n h = record { fits = any_pointer p (length core.blocks) 0 n core.exc_value fit.memory.slot_value; leads = by slots memory.held h; set = λ m e. keeps.set_value }
    where
      by : (s : Slots) → SlotsLead p s core → op_agrees s graph.types (op.ExcValue a n) ≡ true → Leads p core.blocks core.statics n core.exc_value
      by None held h = subst (Leads p core.blocks core.statics n) (sym held.1) tt
      by (Some (k, v)) held h = subst (λ k. Leads p core.blocks core.statics k core.exc_value) (sym (is_same n v h)) held.1

  -- ---- operations

  -- each of these variables is set, where it is a pointer
  abbrev Set_ : List ℕ → Type 0
  Set_ vs = (v n : ℕ) → among v vs ≡ true → slice_get graph.types v ≡ Some (type.Ptr n) → is_unset (read core.vars v) ≡ false

  sound : (t : LlType) (x : COperand) → takes p graph.types t x ≡ true → Set_ (variables_of x) → Sound p core.blocks core.statics t (operand core.vars x)
  sound t x h set = operand_is_sound p ok based_ slots graph.types core fit lead memory keeps.counted t x h set

  taken : (a : ℕ) (t : LlType) (value : Value) → slice_get graph.types a ≡ Some t → Sound p core.blocks core.statics t value → MayStand p graph.types core a value
  taken a t value e s = may_stand p ok based_ slots graph.types core fit lead memory keeps.counted a t value e s

  set_stands : (a : ℕ) (x : COperand) (o : Option LlType) → slice_get graph.types a ≡ o → given_takes p graph.types o x ≡ true → Set_ (variables_of x) → MayStand p graph.types core a (operand core.vars x)
  set_stands a x None e h set = absurd (cc)
  set_stands a x (Some t) e h set = taken a t (operand core.vars x) e (sound t x h set)

  field_taken : (a n v i : ℕ) (o : Option LlType) → field_of (slice_get p.structs n) i ≡ o → has_given graph.types a o ≡ true → MayTakeField p graph.types core a n v i
  field_taken a n v i None f h block found set = absurd (cc)
  field_taken a n v i (Some t) f h block found set =
      taken a t (read block.fields (place (shape_at (shapes_of p.structs) n) i)) (has_type_is t (slice_get graph.types a) h) (field_sound p ok based_ slots graph.types core fit lead memory keeps.counted n i (read core.vars v) block t f found set)

  item_taken : (a n v : ℕ) (o : Option LlType) → items_of (slice_get p.structs n) ≡ o → has_given graph.types a o ≡ true → MayTakeItem p graph.types core a n v
  item_taken a n v None f h block i found set = absurd (cc)
  item_taken a n v (Some t) f h block i found set =
      taken a t (read block.items i) (has_type_is t (slice_get graph.types a) h) (item_sound p ok based_ slots graph.types core fit lead memory keeps.counted n i (read core.vars v) block t f found set)

  -- what is written
  given_so : (t : LlType) (x : COperand) (o : Option ℕ) → o ≡ reference_to (plan_of p).counted t → takes p graph.types t x ≡ true → Set_ (variables_of x) → MayBeGiven p core o x
  given_so t x None e h set = tt
  given_so t x (Some m) e h set = sound_points p core.blocks core.statics t (operand core.vars x) (sound t x h set) m (sym e)

  field_given : (n i : ℕ) (x : COperand) (o : Option LlType) → field_of (slice_get p.structs n) i ≡ o → given_takes p graph.types o x ≡ true → Set_ (variables_of x) → MayBeGiven p core (field_referred (plan_of p) n i) x
  field_given n i x None f h set = absurd (cc)
  field_given n i x (Some t) f h set = given_so t x (field_referred (plan_of p) n i) (field_is p n i t f) h set

  items_given : (n : ℕ) (x : COperand) (o : Option LlType) → items_of (slice_get p.structs n) ≡ o → given_takes p graph.types o x ≡ true → Set_ (variables_of x) → MayBeGiven p core (items_referred (plan_of p) n) x
  items_given n x None f h set = absurd (cc)
  items_given n x (Some t) f h set = given_so t x (items_referred (plan_of p) n) (items_is p n t f) h set

  number_kept : (n v i : ℕ) (x : COperand) (ops : List LlOp) (o : Option LlType) → field_of (slice_get p.structs n) i ≡ o → given_takes p graph.types o x ≡ true → NumberNext p core (op.SetField n v i x ∷ ops) → KeepsNumber p core n v i x
  number_kept n v i x ops None f h next b m block is there begins items e = absurd (cc)
  number_kept n v i x ops (Some t) f h next b m block is there begins items e = next (number_is p ok based_ block.kind n i m t (keeps.counted b block there) begins items e f) b block is there

  -- what is made
  made_so : (a m n : ℕ) → has_type (type.Ptr m) (slice_get graph.types a) ≡ true → begins p.structs n m ≡ true → is_counted (plan_of p) n ≡ true → MayMake p graph.types core a n
  made_so a m n h b c =
      let s : (s : LlStruct) × (slice_get p.structs n ≡ Some s) = there_at p.structs n (is_less n (length p.structs) (and_left _ _ b)) in
      let typed_a : slice_get graph.types a ≡ Some (type.Ptr m) = has_type_is (type.Ptr m) (slice_get graph.types a) h in
      let with : begins_with (shapes_of p.structs) n m ≡ true = begins_so p.structs (and_left _ _ (and_left _ _ (and_left _ _ ok))) n m b in
      record {
        struct = s.0;
        there = s.1;
        counted = c;
        to = m;
        refers = ap (reference_given (plan_of p).counted) typed_a ∙ counted_refers p m (begins_counted p based_ n m c with);
        begins = with;
        inside = (let l : a < length graph.types = types_inside graph.types a (type.Ptr m) typed_a in omega (arith, l, fit.vars.count));
      }

  -- calls
  call_points : (others : List LlType) → AllRoots p others → (vs : List ℕ) (xs : List COperand) → all_given p graph.types others vs xs ≡ true → Set_ (variables_in xs) → AllPoint p graph.types core xs
  call_points others roots [] [] h set = tt
  call_points others roots [] (x ∷ xs) h set = absurd (cc)
  call_points others roots (v ∷ vs) [] h set = absurd (cc)
  call_points others roots (v ∷ vs) (x ∷ xs) h set =
      (by (slice_get others v) refl (and_left _ _ h), call_points others roots vs xs (and_right _ _ h) (λ u n a t. set u n (among_second u (variables_of x) (variables_in xs) a) t))
    where
      by : (o : Option LlType) → slice_get others v ≡ o → given_takes p graph.types o x ≡ true → (n : ℕ) → operand_referred (around_of (plan_of p) graph.types) x ≡ Some n → (root_of (plan_of p) n ≡ n) × PointsTo p core.blocks core.statics n (operand core.vars x)
      by None e h = absurd (cc)
      by (Some t) e h =
          operand_points p ok based_ slots graph.types core fit lead memory keeps.counted t x h (λ u n a t. set u n (among_first u (variables_of x) (variables_in xs) a) t)
          (λ n r. roots v n (ap (reference_given (plan_of p).counted) e ∙ r))

  call_fn_points : (params : List LlType) (xs : List COperand) → all_lead (plan_of p) params ≡ true → all_taken p graph.types params xs ≡ true → Set_ (variables_in xs) → AllPoint p graph.types core xs
  call_fn_points [] [] l h set = tt
  call_fn_points [] (x ∷ xs) l h set = absurd (cc)
  call_fn_points (t ∷ ts) [] l h set = absurd (cc)
  call_fn_points (t ∷ ts) (x ∷ xs) l h set = (
    operand_points p ok based_ slots graph.types core fit lead memory keeps.counted t x (and_left _ _ h) (λ u n a t. set u n (among_first u (variables_of x) (variables_in xs) a) t)
        (λ n r. given_root (plan_of p) (referred (plan_of p) t) n r (and_left _ _ l)),
    call_fn_points ts xs (and_right _ _ l) (and_right _ _ h) (λ u n a t. set u n (among_second u (variables_of x) (variables_in xs) a) t),
  )

  few_operands : (into : Option ℕ) (result : Option LlType) (xs : List COperand) → call_countable (plan_of p) into result xs ≡ true → length xs < most
  few_operands (Some a) result xs h = is_less (length xs) most h
  few_operands None result xs h = is_less (length xs) most (and_right _ _ h)

  module _ (own : Value → ℕ) (held_type : (m : ℕ) → core.exc_type ≡ Ptr m → 0 < own (Ptr m)) (held_value : (m : ℕ) → core.exc_value ≡ Ptr m → 0 < own (Ptr m)) (g : Ghost) (room : (k : ℕ) → k < most → Roomy g k) (ops : List LlOp) where
    abbrev Readied : LlOp → Type 0
    Readied o = Stands p graph o → operation_ok p graph.types o ≡ true → op_agrees slots graph.types o ≡ true → Set_ (reads o) → WritesBlocks p core o → MakesShort p core o → NumberNext p core (o ∷ ops) → ReadyBy p graph own core g o

    slot_taken : (a n : ℕ) (value : Value) → has_type (type.Ptr n) (slice_get graph.types a) ≡ true → Sound p core.blocks core.statics (type.Ptr n) value → ((m : ℕ) → value ≡ Ptr m → 0 < own (Ptr m)) → MayTakeSlot p graph.types own core a value
    slot_taken a n value h s held =
        let typed_a : slice_get graph.types a ≡ Some (type.Ptr n) = has_type_is (type.Ptr n) (slice_get graph.types a) h in
        record { inside = (let l : a < length graph.types = types_inside graph.types a (type.Ptr n) typed_a in omega (arith, l, fit.vars.count)); may = taken a (type.Ptr n) value typed_a s; held = held }

    call_ready : (into : Option ℕ) (f : ℕ) (xs : List COperand) → Readied (op.Call into f xs)
    call_ready into f xs w h agree set writes short next = by (slice_get p.graphs f) refl h (and_right _ _ (op_test p countable graph (op.Call into f xs) w))
      where
        by : (o : Option LlGraph) → slice_get p.graphs f ≡ o → call_ok p graph.types into o xs ≡ true → call_countable (plan_of p) into (result_of o) xs ≡ true → AllPoint p graph.types core xs × Roomy g (length xs)
        by None e h k = absurd (cc)
        by (Some other) e h k = (call_points other.types (all_roots p leads f other e) other.params xs (and_right _ _ h) set, room (length xs) (few_operands into (Some other.result) xs k))

    pub op_ready : (o : LlOp) → Readied o
    op_ready (op.Set a x) w h agree set writes short next = (λ n r. unread p countable graph (op.Set a x) w a n refl r, set_stands a x (slice_get graph.types a) refl h set)
    op_ready (op.GetField a n v i) w h agree set writes short next = (λ k r. unread p countable graph (op.GetField a n v i) w a k refl r, field_taken a n v i (field_of (slice_get p.structs n) i) refl (and_right _ _ h))
    op_ready (op.GetItem a n v x) w h agree set writes short next = (λ k r. unread p countable graph (op.GetItem a n v x) w a k refl r, item_taken a n v (items_of (slice_get p.structs n)) refl (and_right _ _ h))
    op_ready (op.SetField n v i x) w h agree set writes short next = (
      writes,
      number_kept n v i x ops (field_of (slice_get p.structs n) i) refl (and_right _ _ h) next,
      field_given n i x (field_of (slice_get p.structs n) i) refl (and_right _ _ h) (λ u k a t. set u k (or_right (v == u) (among u (variables_of x)) a) t),
      made_by_it p ok slots agrees leads countable graph (op.SetField n v i x) w h n refl,
    )
    op_ready (op.SetItem n v i x) w h agree set writes short next = (
      writes,
      items_given n x (items_of (slice_get p.structs n)) refl (and_right _ _ h) (λ u k a t. set u k (or_right (v == u) (among u (variables_of i ++ variables_of x)) (among_second u (variables_of i) (variables_of x) a)) t),
      made_by_it p ok slots agrees leads countable graph (op.SetItem n v i x) w h n refl,
    )
    op_ready (op.New a m n) w h agree set writes short next = made_so a m n (and_left _ _ (and_left _ _ h)) (and_right _ _ (and_left _ _ h)) (made_by_it p ok slots agrees leads countable graph (op.New a m n) w h n refl)
    op_ready (op.NewArray a m n x) w h agree set writes short next = (
      made_so a m n (and_left _ _ (and_left _ _ (and_left _ _ h))) (and_right _ _ (and_left _ _ (and_left _ _ h))) (made_by_it p ok slots agrees leads countable graph (op.NewArray a m n x) w h n refl),
      λ k r. unread p countable graph (op.NewArray a m n x) w a k refl r,
      record { number = λ k e. number_first_is p numbers n k e; short = short },
    )
    op_ready (op.ExcType a n) w h agree set writes short next = slot_taken a n core.exc_type (and_right _ _ h) (slot_type_sound a n agree) held_type
    op_ready (op.ExcValue a n) w h agree set writes short next = slot_taken a n core.exc_value (and_right _ _ h) (slot_value_sound a n agree) held_value
    op_ready (op.Unary a o x) w h agree set writes short next = tt
    op_ready (op.Binary a o x y) w h agree set writes short next = tt
    op_ready (op.Step x) w h agree set writes short next = tt
    op_ready (op.Argc a) w h agree set writes short next = tt
    op_ready (op.ArgLen a x) w h agree set writes short next = tt
    op_ready (op.Arg a x y) w h agree set writes short next = tt
    op_ready (op.Put x) w h agree set writes short next = tt
    op_ready (op.Call into f xs) w h agree set writes short next = call_ready into f xs w h agree set writes short next
    op_ready (op.CallFn into result params v xs) w h agree set writes short next = (
      call_fn_points params xs (op_lead_test p leads graph (op.CallFn into result params v xs) w) (and_right _ _ h) (λ u k a t. set u k (or_right (v == u) (among u (variables_in xs)) a) t),
      room (length xs) (few_operands into (Some result) xs (and_right _ _ (op_test p countable graph (op.CallFn into result params v xs) w))),
    )
    op_ready (op.ExcSet a b) w h agree set writes short next =
        let s : (var_referred (around_of (plan_of p) graph.types) a ≡ (plan_of p).slots.kind) × (var_referred (around_of (plan_of p) graph.types) b ≡ (plan_of p).slots.value) = slots_set p ok slots agrees leads countable graph a b w agree in
        (s.0, s.1, slot_leads.0, slot_leads.1, room 2 (omega arith))
    op_ready op.ExcClear w h agree set writes short next = slot_leads
    op_ready (op.Free a) w h agree set writes short next = absurd (free_disagrees slots graph.types a agree)
    op_ready (op.Raise a) w h agree set writes short next = absurd (raise_disagrees slots graph.types a agree)

-- Functions that are entered, and instances that are made.
use Rattle.std.proofs.Common.{◌≡◌, ℕ, suc, Bool, true, false, List, [], ◌∷◌, ◌++◌, length, Option, Some, None, refl, sym, subst, codes, inl}
use Rattle.std.specs.Prelude.{◌||◌, ◌==◌, nat_lt, slice_get, is_some, unwrap_or, if◌then◌else◌}
use Rattle.std.proofs.lemmas.Bool.{ltb-true, eqb-true}
use Rattle.rpy_tree.specs.declared.program.Const.{Const}
use Rattle.rpy_tree.specs.Value.{Value, Ref, Object, Instance, Heap}
use Rattle.rpy_meaning.specs.declared.row.Covers.{Covers}
use Rattle.rpy_meaning.specs.Tree.{Program}
use Rattle.rpy_meaning.specs.World.{Enters, give, paying}
use Rattle.rpy_meaning.specs.Costs.{instance_cost}
use Rattle.rpy_meaning.specs.Classes.{first_attributes}
use Rattle.rpy_meaning.specs.Operations.{builtin_classes, constant, initialised, new_instance, new, call_value}
use Rattle.class_desc.specs.Line as line
use Rattle.class_desc.specs.Tables.{home, initial, initial_of}
use Rattle.ann_lattice.specs.Shape.{Shape, NoneOnly, Inst}
use Rattle.ann_lattice.specs.Shape as shape
use Rattle.ann_lattice.specs.Order.{Below, has}
use Rattle.ann_lattice.specs.Assign.{Assignment, at, Need, Up}
use Rattle.ann_lattice.specs.Row as row
use Rattle.ann_lattice.proofs.Tree.{sub_self}
use Rattle.ann_rules.specs.Program.{Whole}
use Rattle.ann_rules.specs.Asks.{loads, argument, arguments, defaults, rest, reach, initial_needs, start_with, make, from_each, call_all, tie_each, results}
use Rattle.ann_rules.specs.Asks as asking
use Rattle.sound_values.specs.Values.{Sort, InstanceOf, none, none_fun, inst, fun}
use Rattle.sound_values.specs.Heaps.{IsOf, AreOf, AllHeld, ObjectIs, IsTyped}
use Rattle.sound_values.proofs.Larger.{larger}
use Rattle.sound_values.proofs.Growing.{keeps_more, grows, are_grown}
use Rattle.sound_values.proofs.Objects.{typed_behind, last_sort}
use Rattle.sound_rows.specs.Seen.{DefaultsThere, Sees}
use Rattle.sound_rows.specs.Sound.{AllMet, ArgumentsAre}
use Rattle.sound_rows.proofs.Tools.{no, Setting, Sounds, Has, Have, Under, misfits, fits, give_of, none_ok, paying_ok, new_object_ok, with_sort, larger_later}
use Rattle.sound_rows.proofs.Containers.{met_append, Met, AllUnder}
use Rattle.sound_rows.proofs.Constants.{constant_goes}
use Rattle.sound_rows.proofs.Classes.{same_method}
use Rattle.sound_rows.proofs.Attributes.{met_within, starting}

-- ---- arguments

defaults_after : (sites : List (Option Object)) (d : Option Const) (ds : List (Option Const)) → DefaultsThere sites (d ∷ ds) → DefaultsThere sites ds
defaults_after sites None ds h = h
defaults_after sites (Some c) ds h = h.1

module _ (p : Whole) (a : Assignment) (q : Program) (sees : Sees p q) (sorts : List Sort) (heap : Heap) (typed : IsTyped p a q.sites sorts heap) where
  arguments_are : (f i : ℕ) (ds : List (Option Const)) (xs : List Shape) (vs : List Value) → AreOf p a sorts xs vs → DefaultsThere q.sites ds
      → AllMet p.tables.classes a (arguments p f i ds xs) → ArgumentsAre p a q sorts f i ds vs
  arguments_are f i [] xs vs h t m = tt
  arguments_are f i (d ∷ ds) [] (v ∷ vs) h t m = absurd h
  arguments_are f i (d ∷ ds) (x ∷ xs) [] h t m = absurd h
  arguments_are f i (d ∷ ds) (x ∷ xs) (v ∷ vs) h t m =
      (larger p.tables.classes sees.tree.tree a.same sorts x (at a (p.places.param f i)) v m.0.0 h.0, arguments_are f (suc i) ds xs vs h.1 (defaults_after q.sites d ds t) m.1)
  arguments_are f i (Some c ∷ ds) [] [] h t m =
      let ms = met_append p.tables.classes a (loads p c ++ Up (p.places.param f i) (row.constant c ∷ []) ∷ []) (arguments p f (suc i) ds []) m in
      let ns = met_append p.tables.classes a (loads p c) (Up (p.places.param f i) (row.constant c ∷ []) ∷ []) ms.0 in
      (constant_goes p a q sees sorts typed.prebuilt c (at a (p.places.param f i)) t.0 ns.0 ns.1.0.0, arguments_are f (suc i) ds [] [] tt t.1 ms.1)
  arguments_are f i (None ∷ ds) [] [] h t m = arguments_are f (suc i) ds [] [] tt t m

  pub reached_with : (f : ℕ) (xs : List Shape) (vs : List Value) → AreOf p a sorts xs vs → AllMet p.tables.classes a (reach p f xs) → ArgumentsAre p a q sorts f 0 (defaults p f) vs
  reached_with f xs vs h m = arguments_are f 0 (defaults p f) xs vs h (sees.defaults f) m.1

module _ (s : Setting) where
  -- ---- calls

  pub enter_ok : (f : ℕ) (xs : List Shape) (vs : List Value) → Have s xs vs → Met s (reach s.p f xs) → Under s (at s.a (s.p.places.result f)) → Sounds s (λ w. Enters f vs None w)
  enter_ok f xs vs h m b w e = record {
    later = s.sorts;
    keeps = λ r sort i. i;
    typed = subst (IsTyped s.p s.a s.q.sites s.sorts) (sym e) s.typed;
    reached = m.0;
    arguments = reached_with s.p s.a s.q s.sees s.sorts s.heap s.typed f xs vs h m;
    result = λ last keeps v i. larger_later s last (at s.a (s.p.places.result f)) v b i;
  }

  pub call_ok : (f : ℕ) (xs : List Shape) (vs : List Value) → Have s xs vs → Met s (call_all s.p s.a (f ∷ []) xs) → Under s (at s.a (s.p.places.result f)) → Sounds s (λ w. Enters f vs None w)
  call_ok f xs vs h m b =
      let ms = met_append s.p.tables.classes s.a (from_each (λ f. reach s.p f xs) (f ∷ [])) (tie_each s.p s.a false (f ∷ []) (f ∷ [])) m in
      enter_ok f xs vs h (met_append s.p.tables.classes s.a (reach s.p f xs) [] ms.0).0 b

  pub call_of_fits : (c : ℕ) (xs : List Shape) (x : Shape) → Under s (row.call_of s.p.tables.classes c xs x) → Under s x
  call_of_fits c (Inst d false ∷ xs) x b = (fits s (line.is_below s.p.tables.classes d c) x b).1
  call_of_fits c xs x b = absurd (misfits s b)

  -- of functions that may be called, one is
  by_has : {A : Type 0} (b : Bool) (g f : ℕ) (rest : Bool) → (g == f) ≡ b → (b || rest) ≡ true → (g ≡ f → A) → (rest ≡ true → A) → A
  by_has true g f rest e h one other = one (eqb-true g f e)
  by_has false g f rest e h one other = other h

  met_has : (fs : List ℕ) (f : ℕ) (xs : List Shape) → Met s (from_each (λ f. reach s.p f xs) fs) → has fs f ≡ true → Met s (reach s.p f xs)
  met_has [] f xs m h = absurd (no h)
  met_has (g ∷ fs) f xs m h =
      let ms = met_append s.p.tables.classes s.a (reach s.p g xs) (from_each (λ f. reach s.p f xs) fs) m in
      by_has (g == f) g f (has fs f) refl h (λ e. subst (λ i. Met s (reach s.p i xs)) e ms.0) (λ i. met_has fs f xs ms.1 i)

  under_has : (fs : List ℕ) (f : ℕ) (t : Shape → Shape) → AllUnder s t (results s.p s.a fs) → has fs f ≡ true → Under s (t (at s.a (s.p.places.result f)))
  under_has [] f t bs h = absurd (no h)
  under_has (g ∷ fs) f t bs h =
      by_has (g == f) g f (has fs f) refl h (λ e. subst (λ i. Under s (t (at s.a (s.p.places.result i)))) e bs.0) (λ i. under_has fs f t bs.1 i)

  called : (c : Covers) (x : Shape) (v : Value) (xs : List Shape) (vs : List Value) → Has s x v → Have s xs vs → Under s (row.call_value (x ∷ xs) shape.Nothing)
      → AllUnder s (row.call_value (x ∷ xs)) (asking.first_results s.p s.a (x ∷ xs)) → Met s (asking.call_value s.p s.a x xs) → Sounds s (call_value s.q c (v ∷ vs))
  called c _ _ xs vs none h b bs m = none_ok s c
  called c _ _ xs vs (none_fun fs) h b bs m = none_ok s c
  called c _ _ xs vs (fun fs n f i) h b bs m =
      let ms = met_append s.p.tables.classes s.a (from_each (λ f. reach s.p f xs) fs) (tie_each s.p s.a false fs fs) m in
      enter_ok f xs vs h (met_has fs f xs ms.0 i) (under_has fs f (row.call_value (shape.Fun fs n ∷ xs)) bs i)
  called c x v xs vs i h b bs m = absurd (misfits s b)

  pub call_value_ok : (c : Covers) (xs : List Shape) (vs : List Value) → Have s xs vs → Under s (row.call_value xs shape.Nothing)
      → AllUnder s (row.call_value xs) (asking.first_results s.p s.a xs) → Met s (asking.with_first (asking.call_value s.p s.a) xs) → Sounds s (call_value s.q c vs)
  call_value_ok c [] vs h b bs m = absurd (misfits s b)
  call_value_ok c (x ∷ xs) [] h b bs m = absurd h
  call_value_ok c (x ∷ xs) (v ∷ vs) h b bs m = called c x v xs vs h.0 h.1 b bs m

  -- ---- instances

  module _ (c : Covers) (d : ℕ) (xs : List Shape) (vs : List Value) (h : Have s xs vs) (m : Met s (make s.p d xs)) (b : Under s (Inst d false)) where
    abbrev initials : List Need
    initials = from_each (initial_needs s.p) (initial s.p.tables d)

    met_start : Met s initials × Met s (start_with s.p d (line.init s.p.tables.classes d) xs)
    met_start = met_append s.p.tables.classes s.a initials (start_with s.p d (line.init s.p.tables.classes d) xs) m.1

    held_first : AllHeld s.p s.a (with_sort s (InstanceOf d)) d (first_attributes s.q.classes d)
    held_first n v e top f =
        let r = starting s.p s.q s.sees d n v e in
        let needs = met_within s.p.tables.classes s.a (initial_needs s.p) (initial_of s.p.tables d (n, r.const)) (initial s.p.tables d) met_start.0 r.within in
        let ms = met_append s.p.tables.classes s.a (loads s.p r.const) (Up (s.p.places.attribute (unwrap_or (home s.p.tables d n) d) n) (row.constant r.const ∷ []) ∷ []) needs in
        let below = subst (λ o. Below s.p.tables.classes s.a.same (row.constant r.const) (at s.a (s.p.places.attribute (unwrap_or o d) n))) f ms.1.0.0 in
        subst (λ u. IsOf s.p s.a (with_sort s (InstanceOf d)) (at s.a (s.p.places.attribute top n)) u) (sym r.value)
        (grows s.p s.a s.sorts (with_sort s (InstanceOf d)) (keeps_more s.sorts (InstanceOf d ∷ [])) (at s.a (s.p.places.attribute top n)) (constant s.q.sites r.const)
        (constant_goes s.p s.a s.q s.sees s.sorts s.typed.prebuilt r.const (at s.a (s.p.places.attribute top n)) r.there ms.0 below))

    made : ObjectIs s.p s.a (with_sort s (InstanceOf d)) (InstanceOf d) (Instance d (first_attributes s.q.classes d))
    made = (refl, (inl m.0, held_first))

    instance_is : (r : ℕ) → slice_get (with_sort s (InstanceOf d)) r ≡ Some (InstanceOf d) → IsOf s.p s.a (with_sort s (InstanceOf d)) (Inst d false) (Ref r)
    instance_is r e = inst d false r d e (sub_self s.p.tables.classes s.sees.tree.tree d)

    typed_made : IsTyped s.p s.a s.q.sites (with_sort s (InstanceOf d)) (s.heap ++ Instance d (first_attributes s.q.classes d) ∷ [])
    typed_made = typed_behind s.p s.a s.q.sites s.sorts s.heap (InstanceOf d) (Instance d (first_attributes s.q.classes d)) s.typed made

    the_instance : IsOf s.p s.a (with_sort s (InstanceOf d)) (Inst d false) (Ref (length s.heap))
    the_instance = instance_is (length s.heap) (last_sort s.p s.a s.sorts s.sorts s.heap (InstanceOf d) s.typed.objects)

    started : (o : Option ℕ) → line.init s.p.tables.classes d ≡ o → Sounds s (λ w. initialised s.q c o (Ref (length w.heap)) vs (record w { heap = w.heap ++ Instance d (first_attributes s.q.classes d) ∷ [] }))
    started None i w e = new_object_ok s (InstanceOf d) (Instance d (first_attributes s.q.classes d)) (Inst d false) made b instance_is w e
    started (Some f) i w e =
        let reached = subst (λ o. Met s (start_with s.p d o xs)) i met_start.1 in
        record {
          later = with_sort s (InstanceOf d);
          keeps = keeps_more s.sorts (InstanceOf d ∷ []);
          typed = subst (λ heap. IsTyped s.p s.a s.q.sites (with_sort s (InstanceOf d)) (heap ++ Instance d (first_attributes s.q.classes d) ∷ [])) (sym e) typed_made;
          reached = reached.0;
          arguments =
              subst (λ heap. ArgumentsAre s.p s.a s.q (with_sort s (InstanceOf d)) f 0 (defaults s.p f) (Ref (length heap) ∷ vs)) (sym e)
              (reached_with s.p s.a s.q s.sees (with_sort s (InstanceOf d)) (s.heap ++ Instance d (first_attributes s.q.classes d) ∷ []) typed_made f (Inst d false ∷ xs) (Ref (length s.heap) ∷ vs)
              (the_instance, are_grown s.p.tables.classes s.a.same s.sorts (with_sort s (InstanceOf d)) (keeps_more s.sorts (InstanceOf d ∷ [])) xs vs h) reached);
          result = λ last keeps v j.
              subst (λ heap. IsOf s.p s.a last s.z (Ref (length heap))) (sym e)
              (larger_later s last (Inst d false) (Ref (length s.heap)) b (grows s.p s.a (with_sort s (InstanceOf d)) last keeps (Inst d false) (Ref (length s.heap)) the_instance));
        }

    made_by : (x : Bool) → nat_lt d builtin_classes ≡ x → Sounds s (if x then give (Ref d) else paying instance_cost (new_instance s.q c d vs))
    made_by true i = give_of s (Inst d false) (Ref d) b (inst d false d d (s.typed.builtin d (ltb-true d builtin_classes i)) (sub_self s.p.tables.classes s.sees.tree.tree d))
    made_by false i =
        paying_ok s instance_cost (new_instance s.q c d vs)
        (subst (λ o. Sounds s (λ w. initialised s.q c o (Ref (length w.heap)) vs (record w { heap = w.heap ++ Instance d (first_attributes s.q.classes d) ∷ [] })))
        (sym (same_method s.p s.q s.sees d (codes "__init__"))) (started (line.init s.p.tables.classes d) refl))

    pub new_is_ok : Sounds s (new s.q c d vs)
    new_is_ok = made_by (nat_lt d builtin_classes) refl

  pub new_ok : (c : Covers) (d : ℕ) (xs : List Shape) (vs : List Value) → Have s xs vs → Under s (row.new s.p.tables.classes d xs) → Met s (make s.p d xs) → Sounds s (new s.q c d vs)
  new_ok c d xs vs h b m = new_is_ok c d xs vs h m (fits s (is_some (line.init s.p.tables.classes d) || row.takes_arguments s.p.tables.classes d xs) (Inst d false) b).1

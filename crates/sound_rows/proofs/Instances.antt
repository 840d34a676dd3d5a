-- Attributes, classes and exceptions.
use Rattle.std.proofs.Common.{◌≡◌, ℕ, Bool, true, false, List, [], ◌∷◌, Option, Some, None, refl, ap, sym, subst, ◌∙◌}
use Rattle.std.specs.Prelude.{◌||◌, slice_get, is_some, if◌then◌else◌}
use Rattle.std.specs.Str.{bytes_eq}
use Rattle.rpy_tree.specs.Value.{Value, Flag, Ref, Instance}
use Rattle.rpy_meaning.specs.declared.row.Covers.{Covers}
use Rattle.rpy_meaning.specs.World.{World, Op, Gives, bad, give, throw, attribute_error}
use Rattle.rpy_meaning.specs.Classes.{named, with_name, is_below, no_covers}
use Rattle.rpy_meaning.specs.Operations.{read_attribute, attribute, set_attribute, store_attribute, is_instance_object, is_instance, raise_object, raise}
use Rattle.class_desc.specs.Line as line
use Rattle.class_desc.specs.Tables.{home}
use Rattle.ann_lattice.specs.Shape.{Shape, NoneOnly, Truth, Inst}
use Rattle.ann_lattice.specs.Shape as shape
use Rattle.ann_lattice.specs.Order.{Sub}
use Rattle.ann_lattice.specs.Assign.{at}
use Rattle.ann_lattice.specs.Row as row
use Rattle.ann_lattice.proofs.Tree.{sub_on}
use Rattle.ann_laws.proofs.Instances.{other_way, home_same}
use Rattle.ann_rules.specs.Asks.{attribute_at, first_attribute, store, to_attribute}
use Rattle.sound_values.specs.Values as values
use Rattle.sound_values.specs.Values.{InstanceOf, none, none_str, none_list, none_dict, none_inst, none_fun, text, list, dict, inst, fun, clash}
use Rattle.sound_values.specs.Heaps.{HeldAt, AllHeld, IsTyped}
use Rattle.sound_values.proofs.Objects.{instance_at}
use Rattle.sound_rows.specs.Sound.{Sound}
use Rattle.sound_rows.proofs.Tools.{no, yes, Setting, Sounds, Has, Under, misfits, fits, give_of, none_ok, at_object_ok, set_object_ok, raise_to}
use Rattle.sound_rows.proofs.Tests.{Answers, answers, any_answer, flag_ok}
use Rattle.sound_rows.proofs.Containers.{Met, AllUnder, if_some_ok, goes}
use Rattle.sound_rows.proofs.Classes.{same_below}
use Rattle.sound_rows.proofs.Attributes.{some_is, same_name, named_set}

module _ (s : Setting) where
  -- ---- classes

  below_up : (d c e : ℕ) → Sub s.p.tables.classes d c → Sub s.p.tables.classes c e → Sub s.p.tables.classes d e
  below_up d c e h i = sub_on s.p.tables.classes s.sees.tree.tree d c e h i

  across : (d c e : ℕ) → Sub s.p.tables.classes d c → Sub s.p.tables.classes d e → line.is_below s.p.tables.classes c e ≡ false → line.is_below s.p.tables.classes e c ≡ true
  across d c e h i f = other_way s.p.tables.classes s.sees.tree.tree s.a.same d c e h i f

  -- an object of class d, which is of class c, is or is not one of class e
  surely_by : (b f g : Bool) → (f ≡ true → b ≡ true) → (b ≡ true → f ≡ false → g ≡ true) → Answers (Some b) (if f then Truth (Some true) else if g then Truth None else Truth (Some false))
  surely_by true true g h i = answers true (Some true) tt
  surely_by false true g h i = absurd (no (h refl))
  surely_by b false true h i = any_answer b
  surely_by true false false h i = absurd (no (i refl refl))
  surely_by false false false h i = answers false (Some false) tt

  perhaps_by : (b f g : Bool) → (f ≡ true → b ≡ true) → (b ≡ true → f ≡ false → g ≡ true) → Answers (Some b) (if f || g then Truth None else Truth (Some false))
  perhaps_by b true g h i = any_answer b
  perhaps_by b false true h i = any_answer b
  perhaps_by true false false h i = absurd (no (i refl refl))
  perhaps_by false false false h i = answers false (Some false) tt

  none_by : (b : Bool) → Answers (Some false) (if b then Truth None else Truth (Some false))
  none_by true = any_answer false
  none_by false = answers false (Some false) tt

  is_below_is : (d c e : ℕ) (n : Bool) → Sub s.p.tables.classes d c → Answers (Some (is_below s.q.classes d e)) (row.is_instance s.p.tables.classes e (Inst c n))
  is_below_is d c e false h =
      subst (λ b. Answers (Some b) (row.surely s.p.tables.classes c e)) (sym (same_below s.p s.q s.sees d e))
      (surely_by (line.is_below s.p.tables.classes d e) (line.is_below s.p.tables.classes c e) (line.is_below s.p.tables.classes e c) (λ i. below_up d c e h i) (λ i f. across d c e h i f))
  is_below_is d c e true h =
      subst (λ b. Answers (Some b) (row.perhaps s.p.tables.classes c e)) (sym (same_below s.p s.q s.sees d e))
      (perhaps_by (line.is_below s.p.tables.classes d e) (line.is_below s.p.tables.classes c e) (line.is_below s.p.tables.classes e c) (λ i. below_up d c e h i) (λ i f. across d c e h i f))

  pub is_instance_ok : (c : Covers) (e : ℕ) (x : Shape) (v : Value) → Has s x v → Under s (row.is_instance s.p.tables.classes e x) → Sounds s (is_instance s.q c e v)
  is_instance_ok c e _ _ none b = flag_ok s (Some false) (Truth (Some false)) (answers false (Some false) tt) b
  is_instance_ok c e _ _ (none_inst d) b =
      flag_ok s (Some false) (row.perhaps s.p.tables.classes d e) (none_by (line.is_below s.p.tables.classes d e || line.is_below s.p.tables.classes e d)) b
  is_instance_ok c e _ _ (inst k n r d h i) b =
      let o = instance_at s.p s.a s.q.sites s.sorts s.heap s.typed r d h in
      at_object_ok s r (Instance d o.attributes) (is_instance_object s.q c e) o.there
      (flag_ok s (Some (is_below s.q.classes d e)) (row.is_instance s.p.tables.classes e (Inst k n)) (is_below_is d k e n i) b)
  is_instance_ok c e x v h b = absurd (misfits s b)

  -- ---- what a test of the class says

  flag_true : (b : Bool) (w : World) → Gives (Flag b) w ≡ Gives (Flag true) w → b ≡ true
  flag_true true w e = refl
  flag_true false w e = cc

  lowered_by : (c e r d : ℕ) (f g : Bool) → line.is_below s.p.tables.classes c e ≡ f → line.is_below s.p.tables.classes e c ≡ g → slice_get s.sorts r ≡ Some (InstanceOf d)
      → Sub s.p.tables.classes d c → Sub s.p.tables.classes d e → Under s (if f then Inst c false else if g then Inst e false else shape.Nothing) → Sounds s (give (Ref r))
  lowered_by c e r d true g i j h k l b = give_of s (Inst c false) (Ref r) b (inst c false r d h k)
  lowered_by c e r d false true i j h k l b = give_of s (Inst e false) (Ref r) b (inst e false r d h l)
  lowered_by c e r d false false i j h k l b = absurd (yes (sym (across d c e k l i) ∙ j))

  pub lower_ok : (e : ℕ) (x : Shape) (v : Value) (w : World) → w.heap ≡ s.heap → Has s x v → is_instance s.q no_covers e v w ≡ Gives (Flag true) w → Under s (row.lower s.p.tables.classes e x)
      → Sound s.p s.a s.q s.raises s.sorts s.z (give v w)
  lower_ok e _ _ w i none t b = absurd (no (flag_true false w t))
  lower_ok e _ _ w i (none_inst c) t b = absurd (no (flag_true false w t))
  lower_ok e _ _ w i (inst c n r d h k) t b =
      let o = instance_at s.p s.a s.q.sites s.sorts s.heap s.typed r d h in
      let there : slice_get w.heap r ≡ Some (Instance d o.attributes) = ap (λ heap. slice_get heap r) i ∙ o.there in
      let told : Gives (Flag (is_below s.q.classes d e)) w ≡ Gives (Flag true) w = subst (λ p. is_instance_object s.q no_covers e p w ≡ Gives (Flag true) w) there t in
      lowered_by c e r d (line.is_below s.p.tables.classes c e) (line.is_below s.p.tables.classes e c) refl refl h k
      (sym (same_below s.p s.q s.sees d e) ∙ flag_true (is_below s.q.classes d e) w told) b w i
  lower_ok e _ _ w i none_str t b = give_of s _ _ b none_str w i
  lower_ok e _ _ w i (none_list c) t b = give_of s _ _ b (none_list c) w i
  lower_ok e _ _ w i (none_dict c) t b = give_of s _ _ b (none_dict c) w i
  lower_ok e _ _ w i (none_fun c) t b = give_of s _ _ b (none_fun c) w i
  lower_ok e _ _ w i (values.flag c n h) t b = give_of s _ _ b (values.flag c n h) w i
  lower_ok e _ _ w i (values.word c n) t b = give_of s _ _ b (values.word c n) w i
  lower_ok e _ _ w i (text c n h) t b = give_of s _ _ b (text c n h) w i
  lower_ok e _ _ w i (values.tuple c n h) t b = give_of s _ _ b (values.tuple c n h) w i
  lower_ok e _ _ w i (list c n r d h k) t b = give_of s _ _ b (list c n r d h k) w i
  lower_ok e _ _ w i (dict c n r d h k) t b = give_of s _ _ b (dict c n r d h k) w i
  lower_ok e _ _ w i (fun c n r h) t b = give_of s _ _ b (fun c n r h) w i
  lower_ok e _ _ w i (clash c n r) t b = give_of s _ _ b (clash c n r) w i

  -- ---- attributes

  pub record HasHome (name : List ℕ) (c : ℕ) : Type 0 where
    pub class : ℕ
    pub is : home s.p.tables c name ≡ Some class

  home_of : (name : List ℕ) (c : ℕ) → row.has_home s.p.tables name c ≡ true → HasHome name c
  home_of name c e = by (home s.p.tables c name) refl e
    where
      by : (o : Option ℕ) → home s.p.tables c name ≡ o → is_some o ≡ true → HasHome name c
      by None i e = absurd (no e)
      by (Some h) i e = record { class = h; is = i }

  home_under : (name : List ℕ) (d c : ℕ) → Sub s.p.tables.classes d c → row.has_home s.p.tables name c ≡ true → home s.p.tables d name ≡ home s.p.tables c name
  home_under name d c h e = home_same s.p.tables.classes s.sees.tree.tree s.a.same s.p.tables refl name d c h e

  attribute_of : (c : Covers) (name : List ℕ) (k h d r : ℕ) → row.has_home s.p.tables name k ≡ true → home s.p.tables k name ≡ Some h → slice_get s.sorts r ≡ Some (InstanceOf d) → Sub s.p.tables.classes d k
      → Under s (at s.a (s.p.places.attribute h name)) → Sounds s (attribute s.q c name (Ref r))
  attribute_of c name k h d r e i q l b =
      let o = instance_at s.p s.a s.q.sites s.sorts s.heap s.typed r d q in
      at_object_ok s r (Instance d o.attributes) (read_attribute s.q c name) o.there
      (if_some_ok s (attribute_error c) (named name o.attributes) give (none_ok s c)
      (λ v m. give_of s (at s.a (s.p.places.attribute h name)) v b (o.held name v m h (home_under name d k l e ∙ i))))

  attribute_parts : (c : Covers) (name : List ℕ) (k d r : ℕ) (n : Bool) → row.has_home s.p.tables name k ≡ true → slice_get s.sorts r ≡ Some (InstanceOf d) → Sub s.p.tables.classes d k
      → AllUnder s (row.attribute s.p.tables name (Inst k n)) (attribute_at s.p s.a (home s.p.tables k name) name) → Sounds s (attribute s.q c name (Ref r))
  attribute_parts c name k d r n e q l bs =
      let h = home_of name k e in
      let under : AllUnder s (row.attribute s.p.tables name (Inst k n)) (at s.a (s.p.places.attribute h.class name) ∷ []) =
      subst (λ o. AllUnder s (row.attribute s.p.tables name (Inst k n)) (attribute_at s.p s.a o name)) h.is bs in
      attribute_of c name k h.class d r e h.is q l (fits s (row.has_home s.p.tables name k) (at s.a (s.p.places.attribute h.class name)) under.0).1

  pub attribute_ok : (c : Covers) (name : List ℕ) (x : Shape) (v : Value) → Has s x v → Under s (row.attribute s.p.tables name x shape.Nothing)
      → AllUnder s (row.attribute s.p.tables name x) (first_attribute s.p s.a name (x ∷ [])) → Sounds s (attribute s.q c name v)
  attribute_ok c name _ _ none b bs = none_ok s c
  attribute_ok c name _ _ (none_inst k) b bs = none_ok s c
  attribute_ok c name _ _ (inst k n r d q l) b bs = attribute_parts c name k d r n (fits s (row.has_home s.p.tables name k) shape.Nothing b).0 q l bs
  attribute_ok c name x v h b bs = absurd (misfits s b)

  held_set : (name : List ℕ) (v : Value) (d : ℕ) (attributes : List (List ℕ × Value)) → AllHeld s.p s.a s.sorts d attributes → HeldAt s.p s.a s.sorts d name v
      → AllHeld s.p s.a s.sorts d (with_name name v attributes)
  held_set name v d attributes h i n u e = by (bytes_eq name n) refl (sym (named_set name v n attributes) ∙ e)
    where
      by : (b : Bool) → bytes_eq name n ≡ b → (if b then Some v else named n attributes) ≡ Some u → HeldAt s.p s.a s.sorts d n u
      by true f e = subst (λ m. HeldAt s.p s.a s.sorts d m u) (same_name name n f) (subst (λ w. HeldAt s.p s.a s.sorts d name w) (some_is v u e) i)
      by false f e = h n u e

  stored_at : (name : List ℕ) (y : Shape) (u : Value) (d k h : ℕ) → home s.p.tables d name ≡ Some h → Met s (to_attribute s.p s.a (Some h) name y) → Has s y u → HeldAt s.p s.a s.sorts d name u
  stored_at name y u d k h e m j g f =
      subst (λ c. Has s (at s.a (s.p.places.attribute c name)) u) (some_is h g (sym e ∙ f)) (goes s y (at s.a (s.p.places.attribute h name)) u m.0.0 j)

  pub store_attribute_ok : (c : Covers) (name : List ℕ) (x y : Shape) (v u : Value) → Has s x v → Has s y u → Under s (row.store_attribute s.p.tables name x y) → Met s (store s.p s.a name x y)
      → Sounds s (store_attribute s.q c name v u)
  store_attribute_ok c name _ y _ u none j b m = none_ok s c
  store_attribute_ok c name _ y _ u (none_inst k) j b m = none_ok s c
  store_attribute_ok c name _ y _ u (inst k n r d q l) j b m =
      let g = fits s (row.has_home s.p.tables name k) y b in
      let h = home_of name k g.0 in
      let o = instance_at s.p s.a s.q.sites s.sorts s.heap s.typed r d q in
      let stored = stored_at name y u d k h.class (home_under name d k l g.0 ∙ h.is) (subst (λ o. Met s (to_attribute s.p s.a o name y)) h.is m) j in
      at_object_ok s r (Instance d o.attributes) (set_attribute s.q c name r u) o.there
      (set_object_ok s r (InstanceOf d) (Instance d (with_name name u o.attributes)) u q (refl, (o.has, held_set name u d o.attributes o.held stored)) (raise_to s y u g.1 j))
  store_attribute_ok c name x y v u h j b m = absurd (misfits s b)

  -- ---- exceptions

  raised : (b : Bool) (f g : Op) → b ≡ true → Sounds s f → Sounds s (if b then f else g)
  raised true f g e h = h
  raised false f g e h = absurd (no e)

  thrown : (r d : ℕ) → slice_get s.sorts r ≡ Some (InstanceOf d) → Sub s.p.tables.classes d 0 → s.raises ≡ true → Sounds s (throw r)
  thrown r d h i e w j = record {
    later = s.sorts;
    keeps = λ r sort i. i;
    typed = subst (IsTyped s.p s.a s.q.sites s.sorts) (sym j) s.typed;
    class = d;
    sort = h;
    exception = i;
    builtin = λ f. absurd (yes (sym e ∙ f));
  }

  pub raise_ok : (c : Covers) (x : Shape) (v : Value) → Has s x v → s.raises ≡ true → Under s (row.raised s.p.tables.classes x) → Sounds s (raise s.q c v)
  raise_ok c _ _ none e b = none_ok s c
  raise_ok c _ _ (none_inst k) e b = none_ok s c
  raise_ok c _ _ (inst k n r d h i) e b =
      let g = fits s (line.is_below s.p.tables.classes k 0) NoneOnly b in
      let o = instance_at s.p s.a s.q.sites s.sorts s.heap s.typed r d h in
      let top = below_up d k 0 i g.0 in
      at_object_ok s r (Instance d o.attributes) (raise_object s.q c r) o.there
      (raised (is_below s.q.classes d 0) (throw r) bad (same_below s.p s.q s.sees d 0 ∙ top) (thrown r d h top e))
  raise_ok c x v h e b = absurd (misfits s b)

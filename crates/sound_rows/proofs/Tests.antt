-- Truth, comparisons and membership.
use Rattle.std.proofs.Common.{◌≡◌, ℕ, Bool, true, false, List, Option, Some, None, refl, ap, sym, subst, ◌∙◌}
use Rattle.std.specs.Prelude.{pos, ◌&&◌, ◌||◌, not, int_lt, slice_get, option_map, is_some}
use Rattle.std.specs.Ordering.{int_eq}
use Rattle.rpy_tree.specs.declared.syntax.CmpOp.{CmpOp}
use Rattle.rpy_tree.specs.declared.syntax.CmpOp.TheVariants as cmp
use Rattle.rpy_tree.specs.Value.{Value, Word, Flag, Text, Nothing, Tuple, Fun, Ref, Values, Object, Listed, Mapped}
use Rattle.rpy_meaning.specs.declared.row.Covers.{Covers}
use Rattle.rpy_meaning.specs.World.{World, give, flag_if_any, at_object, attribute_error}
use Rattle.rpy_meaning.specs.Compare.{equal, all_equal, both, identical, less, text_less, object_truth, is_some_item, is_among}
use Rattle.rpy_meaning.specs.Sequences.{is_in_object, has_key, items_of}
use Rattle.rpy_meaning.specs.Methods.{place_of}
use Rattle.rpy_meaning.specs.Operations.{opposite, within, compare, truth_in, is_true, is_not_true}
use Rattle.class_desc.specs.Line as line
use Rattle.ann_lattice.specs.Shape.{One, Any, OrNone, Shape, NoneOnly, Truth, Lst, Dct, Inst, Shapes}
use Rattle.ann_lattice.specs.Shape as shape
use Rattle.ann_lattice.specs.Join.{is_clash}
use Rattle.ann_lattice.specs.Kind.{given, is_int, is_nothing, is_str, known_unless}
use Rattle.ann_lattice.specs.Order.{LessKnown}
use Rattle.ann_lattice.specs.Row as row
use Rattle.sound_values.specs.Values.{none, none_str, none_list, none_dict, none_inst, none_fun, flag, word, text, tuple, list, dict, inst, fun, clash, Each, no_more, and_more}
use Rattle.sound_values.proofs.Objects.{list_at, dict_at, instance_at}
use Rattle.sound_rows.specs.Sound.{Sound}
use Rattle.sound_rows.proofs.Tools.{no, yes, Setting, Sounds, Has, Under, above_clash, misfits, fits, give_of, truth_of, none_ok, at_object_ok}
use Rattle.sound_rows.proofs.Operands.{and_left, and_right, word_of, text_of}

-- what a test answers is of the truth value
pub record Answers (o : Option Bool) (x : Shape) : Type 0 where
  pub bool : Bool
  pub is : o ≡ Some bool
  pub known : Option Bool
  pub shape : x ≡ Truth known
  pub less : LessKnown (Some bool) known

pub answers : (b : Bool) (known : Option Bool) → LessKnown (Some b) known → Answers (Some b) (Truth known)
answers b known h = record { bool = b; is = refl; known = known; shape = refl; less = h }

pub any_answer : (b : Bool) → Answers (Some b) (Truth None)
any_answer true = answers true None tt
any_answer false = answers false None tt

given_answer : (o : Option Bool) (b : Bool) (x : Shape) → b ≡ true → Answers o x → Answers o (given b x)
given_answer o true x e h = h
given_answer o false x e h = absurd (no e)

opposite_of : (b : Bool) (known : Option Bool) → LessKnown (Some b) known → Answers (Some (not b)) (row.negated (Truth known))
opposite_of true (Some true) h = answers false (Some false) tt
opposite_of false (Some false) h = answers true (Some true) tt
opposite_of true (Some false) h = absurd h
opposite_of false (Some true) h = absurd h
opposite_of true None h = answers false None tt
opposite_of false None h = answers true None tt

pub opposite_answers : (o : Option Bool) (x : Shape) → Answers o x → Answers (opposite o) (row.negated x)
opposite_answers o x h =
    subst (λ y. Answers (opposite o) (row.negated y)) (sym h.shape) (subst (λ p. Answers (opposite p) (row.negated (Truth h.known))) (sym h.is) (opposite_of h.bool h.known h.less))

negated_clash : (x : Shape) → is_clash (row.negated x) ≡ is_clash x
negated_clash (Truth (Some true)) = refl
negated_clash (Truth (Some false)) = refl
negated_clash (Truth None) = refl
negated_clash x = refl

known_is : (v n : Bool) → Answers (Some v) (known_unless v n)
known_is v true = any_answer v
known_is true false = answers true (Some true) tt
known_is false false = answers false (Some false) tt

module _ (s : Setting) where
  pub unclash : (x : Shape) → Under s x → is_clash x ≡ false
  unclash x h = by (is_clash x) refl
    where
      by : (b : Bool) → is_clash x ≡ b → b ≡ false
      by true e = absurd (above_clash s.p.tables.classes s.a.same x s.z h e s.free)
      by false e = refl

  pub flag_ok : (o : Option Bool) (x : Shape) → Answers o x → Under s x → Sounds s (flag_if_any o)
  flag_ok o x h b =
      subst (λ p. Sounds s (flag_if_any p)) (sym h.is) (give_of s (Truth h.known) (Flag h.bool) (subst (λ y. Under s y) h.shape b) (flag h.known h.bool h.less))

  -- ---- truth

  -- what the truth of a value is, whatever was printed
  pub record Truthful (x : Shape) (v : Value) : Type 0 where
    pub bool : Bool
    pub is : (w : World) → w.heap ≡ s.heap → truth_in w v ≡ Some bool
    pub answer : Answers (Some bool) (row.truth_of x)

  by_value : (x : Shape) (v : Value) (b : Bool) → ((w : World) → truth_in w v ≡ Some b) → Answers (Some b) (row.truth_of x) → Truthful x v
  by_value x v b e h = record { bool = b; is = λ w i. e w; answer = h }

  by_object : (x : Shape) (r : ℕ) (o : Object) (b : Bool) → slice_get s.heap r ≡ Some o → object_truth (Some o) ≡ Some b → Answers (Some b) (row.truth_of x) → Truthful x (Ref r)
  by_object x r o b there e h = record { bool = b; is = λ w i. ap object_truth (ap (λ heap. slice_get heap r) i ∙ there) ∙ e; answer = h }

  pub truthful : (x : Shape) (v : Value) → Has s x v → is_clash (row.truth_of x) ≡ false → Truthful x v
  truthful _ _ none e = by_value _ _ false (λ w. refl) (answers false (Some false) tt)
  truthful _ _ none_str e = by_value _ _ false (λ w. refl) (any_answer false)
  truthful _ _ (none_list u) e = by_value _ _ false (λ w. refl) (any_answer false)
  truthful _ _ (none_dict u) e = by_value _ _ false (λ w. refl) (any_answer false)
  truthful _ _ (none_inst c) e = by_value _ _ false (λ w. refl) (any_answer false)
  truthful _ _ (none_fun fs) e = by_value _ _ false (λ w. refl) (any_answer false)
  truthful _ _ (flag known b h) e = by_value _ _ b (λ w. refl) (answers b known h)
  truthful _ _ (word n z) e = by_value _ _ (not (int_eq z (pos 0))) (λ w. refl) (any_answer _)
  truthful _ _ (text width bytes h) e = by_value _ _ (is_some_item bytes) (λ w. refl) (any_answer _)
  truthful _ _ (tuple xs vs h) e = absurd (yes e)
  truthful _ _ (list u n r t h i) e = let o = list_at s.p s.a s.q.sites s.sorts s.heap s.typed r t h in by_object _ r _ (is_some_item o.items) o.there refl (any_answer _)
  truthful _ _ (dict u n r t h i) e = let o = dict_at s.p s.a s.q.sites s.sorts s.heap s.typed r t h in by_object _ r _ (is_some_item o.pairs) o.there refl (any_answer _)
  truthful _ _ (inst c n r d h i) e = let o = instance_at s.p s.a s.q.sites s.sorts s.heap s.typed r d h in by_object _ r _ true o.there refl (known_is true n)
  truthful _ _ (fun fs n f h) e = by_value _ _ true (λ w. refl) (known_is true n)
  truthful _ _ (clash l d v) e = absurd (yes e)

  pub is_true_ok : (x : Shape) (v : Value) → Has s x v → Under s (row.truth_of x) → Sounds s (is_true v)
  is_true_ok x v h b w e =
      let t = truthful x v h (unclash (row.truth_of x) b) in
      subst (λ o. Sound s.p s.a s.q s.raises s.sorts s.z (flag_if_any o w)) (sym (t.is w e)) (flag_ok (Some t.bool) (row.truth_of x) t.answer b w e)

  pub is_not_true_ok : (x : Shape) (v : Value) → Has s x v → Under s (row.negated (row.truth_of x)) → Sounds s (is_not_true v)
  is_not_true_ok x v h b w e =
      let t = truthful x v h (sym (negated_clash (row.truth_of x)) ∙ unclash (row.negated (row.truth_of x)) b) in
      subst (λ o. Sound s.p s.a s.q s.raises s.sorts s.z (flag_if_any (opposite o) w)) (sym (t.is w e))
      (flag_ok (opposite (Some t.bool)) (row.negated (row.truth_of x)) (opposite_answers (Some t.bool) (row.truth_of x) t.answer) b w e)

  -- ---- order

  less_words : (x y : Shape) (v u : Value) → Has s x v → Has s y u → row.both_int x y ≡ true → Answers (less v u) (Truth None)
  less_words x y v u h j e =
      let a = word_of s x v h (and_left (is_int x) (is_int y) e) in
      let b = word_of s y u j (and_right (is_int x) (is_int y) e) in
      subst (λ p. Answers (less p u) (Truth None)) (sym a.is) (subst (λ p. Answers (less (Word a.number) p) (Truth None)) (sym b.is) (any_answer (int_lt a.number b.number)))

  less_texts : (x y : Shape) (v u : Value) → Has s x v → Has s y u → (is_str x && is_str y) ≡ true → Answers (less v u) (Truth None)
  less_texts x y v u h j e =
      let a = text_of s x v h (and_left (is_str x) (is_str y) e) in
      let b = text_of s y u j (and_right (is_str x) (is_str y) e) in
      subst (λ p. Answers (less p u) (Truth None)) (sym a.is) (subst (λ p. Answers (less (Text a.bytes) p) (Truth None)) (sym b.is) (any_answer (text_less a.bytes b.bytes)))

  less_is : (x y : Shape) (v u : Value) → Has s x v → Has s y u → (row.both_int x y || (is_str x && is_str y)) ≡ true → Answers (less v u) (Truth None)
  less_is x y v u h j e = by (row.both_int x y) refl e
    where
      by : (b : Bool) → row.both_int x y ≡ b → (b || (is_str x && is_str y)) ≡ true → Answers (less v u) (Truth None)
      by true i e = less_words x y v u h j i
      by false i e = less_texts x y v u h j e

  less_turned : (x y : Shape) (v u : Value) → Has s x v → Has s y u → (row.both_int x y || (is_str x && is_str y)) ≡ true → Answers (less u v) (Truth None)
  less_turned x y v u h j e = less_is y x u v j h (turned (is_int x) (is_int y) (is_str x) (is_str y) e)
    where
      turned : (a b c d : Bool) → ((a && b) || (c && d)) ≡ true → ((b && a) || (d && c)) ≡ true
      turned true true c d e = refl
      turned false true true true e = refl
      turned false false true true e = refl
      turned true false true true e = refl
      turned true false true false e = absurd (no e)
      turned true false false d e = absurd (no e)
      turned false true true false e = absurd (no e)
      turned false true false d e = absurd (no e)
      turned false false true false e = absurd (no e)
      turned false false false d e = absurd (no e)

  -- ---- equality

  both_known : (o p : Option Bool) → Answers o (Truth None) → Answers p (Truth None) → Answers (both o p) (Truth None)
  both_known o p h j = subst (λ x. Answers (both x p) (Truth None)) (sym h.is) (subst (λ x. Answers (both (Some h.bool) x) (Truth None)) (sym j.is) (any_answer (h.bool && j.bool)))

  pub reached : (x : Shape) (v : Value) → Has s x v → is_nothing x ≡ false
  reached _ _ none = refl
  reached _ _ none_str = refl
  reached _ _ (none_list t) = refl
  reached _ _ (none_dict t) = refl
  reached _ _ (none_inst c) = refl
  reached _ _ (none_fun fs) = refl
  reached _ _ (flag known b h) = refl
  reached _ _ (word n z) = refl
  reached _ _ (text width bytes h) = refl
  reached _ _ (tuple xs vs h) = refl
  reached _ _ (list t n r a h i) = refl
  reached _ _ (dict t n r a h i) = refl
  reached _ _ (inst c n r a h i) = refl
  reached _ _ (fun fs n f h) = refl
  reached _ _ (clash l d v) = refl

  unequal : (y : Shape) (u : Value) {A : Type 0} → Has s y u → is_nothing y ≡ true → A
  unequal y u h e = absurd (no (sym (reached y u h) ∙ e))

  mutual
    equal_is : (x y : Shape) (v u : Value) → Has s x v → Has s y u → row.has_equality x y ≡ true → Answers (equal v u) (Truth None)
    equal_is _ _ _ _ (word n z) (word m y) e = any_answer _
    equal_is _ _ _ _ (flag k b h) (flag l c j) e = any_answer _
    equal_is _ _ _ _ (text w a h) (text v b j) e = any_answer _
    equal_is _ _ _ _ (text w a h) none e = any_answer _
    equal_is _ _ _ _ (text w a h) none_str e = any_answer _
    equal_is _ _ _ _ none (text v b j) e = any_answer _
    equal_is _ _ _ _ none_str (text v b j) e = any_answer _
    equal_is _ _ _ _ none none e = any_answer _
    equal_is _ _ _ _ none none_str e = any_answer _
    equal_is _ _ _ _ none_str none e = any_answer _
    equal_is _ _ _ _ none_str none_str e = any_answer _
    equal_is _ _ _ _ (tuple xs vs h) (tuple ys us j) e = all_equal_are xs ys vs us h j e
    equal_is _ y _ u (none_list t) j e = unequal y u j e
    equal_is _ y _ u (none_dict t) j e = unequal y u j e
    equal_is _ y _ u (none_inst c) j e = unequal y u j e
    equal_is _ y _ u (none_fun fs) j e = unequal y u j e
    equal_is _ y _ u (list t n r a h i) j e = unequal y u j e
    equal_is _ y _ u (dict t n r a h i) j e = unequal y u j e
    equal_is _ y _ u (inst c n r a h i) j e = unequal y u j e
    equal_is _ y _ u (fun fs n f h) j e = unequal y u j e
    equal_is _ y _ u (clash l d v) j e = unequal y u j e
    equal_is x y v u h j e = absurd (no e)

    all_equal_are : (xs ys : Shapes) (vs us : Values) → Each s.p.tables.classes s.a.same s.sorts xs vs → Each s.p.tables.classes s.a.same s.sorts ys us → row.have_equality xs ys ≡ true
        → Answers (all_equal vs us) (Truth None)
    all_equal_are _ _ _ _ no_more no_more e = any_answer _
    all_equal_are _ _ _ _ (and_more x xs v vs h hs) (and_more y ys u us j js) e =
        both_known (equal v u) (all_equal vs us)
        (equal_is x y v u h j (and_left (row.has_equality x y) (row.have_equality xs ys) e))
        (all_equal_are xs ys vs us hs js (and_right (row.has_equality x y) (row.have_equality xs ys) e))
    all_equal_are xs ys vs us hs js e = absurd (no e)

  -- ---- identity

  none_is : (x : Shape) (v : Value) → Has s x v → is_clash x ≡ false → Answers (identical Nothing v) (row.is_none x)
  none_is _ _ none e = answers true (Some true) tt
  none_is _ _ none_str e = any_answer true
  none_is _ _ (none_list u) e = any_answer true
  none_is _ _ (none_dict u) e = any_answer true
  none_is _ _ (none_inst c) e = any_answer true
  none_is _ _ (none_fun fs) e = any_answer true
  none_is _ _ (flag known b h) e = answers false (Some false) tt
  none_is _ _ (word n z) e = answers false (Some false) tt
  none_is _ _ (text One bytes h) e = answers false (Some false) tt
  none_is _ _ (text Any bytes h) e = answers false (Some false) tt
  none_is _ _ (text OrNone bytes h) e = any_answer false
  none_is _ _ (tuple xs vs h) e = answers false (Some false) tt
  none_is _ _ (list u n r t h i) e = known_is false n
  none_is _ _ (dict u n r t h i) e = known_is false n
  none_is _ _ (inst c n r d h i) e = known_is false n
  none_is _ _ (fun fs n f h) e = known_is false n
  none_is _ _ (clash l d v) e = absurd (yes e)

  identical_turned : (v : Value) → identical Nothing v ≡ identical v Nothing
  identical_turned (Word z) = refl
  identical_turned (Flag b) = refl
  identical_turned (Text bytes) = refl
  identical_turned Nothing = refl
  identical_turned (Tuple vs) = refl
  identical_turned (Fun f) = refl
  identical_turned (Ref r) = refl

  is_none_turned : (x : Shape) (v : Value) → Has s x v → is_clash x ≡ false → Answers (identical v Nothing) (row.is_none x)
  is_none_turned x v h e = subst (λ o. Answers o (row.is_none x)) (identical_turned v) (none_is x v h e)

  some_base : (c d : ℕ) (o : Option Bool) → is_clash (given (is_some (line.common_base s.p.tables.classes c d)) (Truth None)) ≡ false → Answers o (Truth None)
      → Answers o (given (is_some (line.common_base s.p.tables.classes c d)) (Truth None))
  some_base c d o e h = by (is_some (line.common_base s.p.tables.classes c d)) e
    where
      by : (b : Bool) → is_clash (given b (Truth None)) ≡ false → Answers o (given b (Truth None))
      by true e = h
      by false e = absurd (yes e)

  identical_is : (x y : Shape) (v u : Value) → Has s x v → Has s y u → is_clash x ≡ false → is_clash y ≡ false → is_clash (row.identical s.p.tables.classes x y) ≡ false
      → Answers (identical v u) (row.identical s.p.tables.classes x y)
  identical_is _ y _ u none j e f g = none_is y u j f
  identical_is x _ v _ h none e f g = turned x v h e
    where
      turned : (x : Shape) (v : Value) → Has s x v → is_clash x ≡ false → Answers (identical v Nothing) (row.identical s.p.tables.classes x NoneOnly)
      turned _ _ none e = answers true (Some true) tt
      turned x v h e = is_none_turned x v h e
  identical_is _ _ _ _ (list t n r a h i) (list u m q b j l) e f g = any_answer _
  identical_is _ _ _ _ (list t n r a h i) (none_list u) e f g = any_answer _
  identical_is _ _ _ _ (none_list t) (list u m q b j l) e f g = any_answer _
  identical_is _ _ _ _ (none_list t) (none_list u) e f g = any_answer _
  identical_is _ _ _ _ (dict t n r a h i) (dict u m q b j l) e f g = any_answer _
  identical_is _ _ _ _ (dict t n r a h i) (none_dict u) e f g = any_answer _
  identical_is _ _ _ _ (none_dict t) (dict u m q b j l) e f g = any_answer _
  identical_is _ _ _ _ (none_dict t) (none_dict u) e f g = any_answer _
  identical_is _ _ _ _ (inst c n r a h i) (inst d m q b j l) e f g = some_base c d _ g (any_answer _)
  identical_is _ _ _ _ (inst c n r a h i) (none_inst d) e f g = some_base c d _ g (any_answer _)
  identical_is _ _ _ _ (none_inst c) (inst d m q b j l) e f g = some_base c d _ g (any_answer _)
  identical_is _ _ _ _ (none_inst c) (none_inst d) e f g = some_base c d _ g (any_answer _)
  identical_is x y v u h j e f g = absurd (yes g)

  -- ---- membership

  module _ (c : Covers) (turn : Bool → Bool) where
    within_none : (v : Value) → within c turn v Nothing ≡ attribute_error c
    within_none (Word z) = refl
    within_none (Flag b) = refl
    within_none (Text bytes) = refl
    within_none Nothing = refl
    within_none (Tuple vs) = refl
    within_none (Fun f) = refl
    within_none (Ref r) = refl

    within_object : (v : Value) (r : ℕ) → within c turn v (Ref r) ≡ at_object r (λ object. flag_if_any (option_map turn (is_in_object v object)))
    within_object (Word z) r = refl
    within_object (Flag b) r = refl
    within_object (Text bytes) r = refl
    within_object Nothing r = refl
    within_object (Tuple vs) r = refl
    within_object (Fun f) r = refl
    within_object (Ref q) r = refl

    within_tuple : (v : Value) (us : Values) → within c turn v (Tuple us) ≡ give (Flag (turn (is_among v (items_of us))))
    within_tuple (Word z) us = refl
    within_tuple (Flag b) us = refl
    within_tuple (Text bytes) us = refl
    within_tuple Nothing us = refl
    within_tuple (Tuple vs) us = refl
    within_tuple (Fun f) us = refl
    within_tuple (Ref r) us = refl

    no_container : (v : Value) → Sounds s (within c turn v Nothing)
    no_container v = subst (λ o. Sounds s o) (sym (within_none v)) (none_ok s c)

    within_text : (x : Shape) (v : Value) (bytes : List ℕ) → Has s x v → is_str x ≡ true → Under s (Truth None) → Sounds s (within c turn v (Text bytes))
    within_text x v bytes h e b = let a = text_of s x v h e in subst (λ p. Sounds s (within c turn p (Text bytes))) (sym a.is) (truth_of s (turn (is_some (place_of a.bytes 0 bytes))) b)

    pub within_ok : (x y : Shape) (v u : Value) → Has s x v → Has s y u → Under s (row.within x y shape.Nothing) → Sounds s (within c turn v u)
    within_ok x _ v _ h none b = no_container v
    within_ok x _ v _ h none_str b = no_container v
    within_ok x _ v _ h (none_list t) b = no_container v
    within_ok x _ v _ h (none_dict t) b = no_container v
    within_ok x _ v _ h (text width bytes f) b = let g = fits s (is_str x) (Truth None) b in within_text x v bytes h g.0 g.1
    within_ok x _ v _ h (tuple ys us j) b = let g = fits s (row.equals_each x ys) (Truth None) b in subst (λ o. Sounds s o) (sym (within_tuple v us)) (truth_of s _ g.1)
    within_ok x _ v _ h (list t n r q i j) b =
        let o = list_at s.p s.a s.q.sites s.sorts s.heap s.typed r q i in
        subst (λ f. Sounds s f) (sym (within_object v r)) (at_object_ok s r (Listed o.items) (λ object. flag_if_any (option_map turn (is_in_object v object))) o.there (truth_of s (turn (is_among v o.items)) b))
    within_ok x _ v _ h (dict t n r q i j) b =
        let o = dict_at s.p s.a s.q.sites s.sorts s.heap s.typed r q i in
        subst (λ f. Sounds s f) (sym (within_object v r)) (at_object_ok s r (Mapped o.pairs) (λ object. flag_if_any (option_map turn (is_in_object v object))) o.there (truth_of s (turn (has_key v o.pairs)) b))
    within_ok x y v u h j b = absurd (misfits s b)

  pub compare_ok : (c : Covers) (o : CmpOp) (x y : Shape) (v u : Value) → Has s x v → Has s y u → is_clash x ≡ false → is_clash y ≡ false
      → Under s (row.compare s.p.tables.classes o x y shape.Nothing) → Sounds s (compare c o v u)
  compare_ok c cmp.Lt x y v u h j e f b = let g = fits s _ (Truth None) b in flag_ok (less v u) (Truth None) (less_is x y v u h j g.0) g.1
  compare_ok c cmp.Ge x y v u h j e f b = let g = fits s _ (Truth None) b in flag_ok (opposite (less v u)) (Truth None) (opposite_answers _ (Truth None) (less_is x y v u h j g.0)) g.1
  compare_ok c cmp.Gt x y v u h j e f b = let g = fits s _ (Truth None) b in flag_ok (less u v) (Truth None) (less_turned x y v u h j g.0) g.1
  compare_ok c cmp.Le x y v u h j e f b = let g = fits s _ (Truth None) b in flag_ok (opposite (less u v)) (Truth None) (opposite_answers _ (Truth None) (less_turned x y v u h j g.0)) g.1
  compare_ok c cmp.Eq x y v u h j e f b = let g = fits s (row.has_equality x y) (Truth None) b in flag_ok (equal v u) (Truth None) (equal_is x y v u h j g.0) g.1
  compare_ok c cmp.Ne x y v u h j e f b = let g = fits s (row.has_equality x y) (Truth None) b in flag_ok (opposite (equal v u)) (Truth None) (opposite_answers _ (Truth None) (equal_is x y v u h j g.0)) g.1
  compare_ok c cmp.Is x y v u h j e f b = flag_ok (identical v u) _ (identical_is x y v u h j e f (unclash _ b)) b
  compare_ok c cmp.IsNot x y v u h j e f b =
      flag_ok (opposite (identical v u)) _
      (opposite_answers (identical v u) _ (identical_is x y v u h j e f (sym (negated_clash (row.identical s.p.tables.classes x y)) ∙ unclash _ b))) b
  compare_ok c cmp.Within x y v u h j e f b = within_ok c (λ b. b) x y v u h j b
  compare_ok c cmp.NotWithin x y v u h j e f b = within_ok c not x y v u h j b

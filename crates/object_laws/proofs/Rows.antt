-- A list of two words stands in two blocks, and an instance in one.
use Rattle.std.proofs.Common.{◌≡◌, ◌<◌, ℕ, zero, suc, Bool, true, false, List, [], ◌∷◌, Option, Some, None, pos, negsuc, ℤ, refl, sym, ap, ◌∙◌, subst, arith}
use Rattle.std.specs.Str.{bytes_eq}
use Rattle.std.specs.Prelude.{slice_get, if◌then◌else◌}
use Rattle.std.proofs.lemmas.Int.{ints}
use Rattle.rpy_base.specs.Word.{Fits}
use Rattle.ann_element.specs.declared.element.Element.TheVariants as element
use Rattle.csub_tree.specs.State.{Value, Unset, Word, Flag, Ptr, Null, Static, Block}
use Rattle.csub_tree.specs.Statement.{read}
use Rattle.ll_code.specs.Machine.{shapes_from}
use Rattle.ll_texts.specs.Texts.{found}
use Rattle.rpy_tree.specs.Value.{Value as Meant, Word as MeantWord}
use Rattle.rpy_meaning.specs.Classes.{named}
use Rattle.rtyper_layout.specs.declared.classes.Laid.{Laid}
use Rattle.rtyper_layout.specs.Types.{laid_in}
use Rattle.rtyper_layout.specs.Layout.{is_list}
use Rattle.lower_laws.proofs.Typing.{place_of_words}
use Rattle.object_laws.specs.Ghost.{Home, Sort, ListOf, InstanceOf, Stays, use_of}
use Rattle.object_laws.specs.Represents.{ListAt, InstanceAt, Shows, is_settled, value_at, set_at}
use Rattle.object_laws.specs.Known.{Standing, vtable_block}
use Rattle.object_laws.specs.Rows.{layout, known, heap, blocks, ghost, TwoWords, below, classes, class_layout, class_known, x, y, attribute, vtable, instance_heap, statics, instance_blocks, instance_ghost, AnInstance}
use Rattle.object_laws.specs.Values.{Holds, Plain, Stands, word, Empty, More}

a_word : (z : ℤ) → Fits z → Holds layout known ghost (Some element.Int) (Word z) (MeantWord z)
a_word z f = Plain refl (subst (λ t. Stands ghost t (Word z) (MeantWord z)) (sym (place_of_words layout (Some element.Int) refl)) (word z f))

none_stays : (x : Value) (block : Block) → use_of ghost x ≡ Some (Stays block) → found blocks [] x ≡ Some block
none_stays (Ptr zero) block h = absurd (cc)
none_stays (Ptr (suc zero)) block h = absurd (cc)
none_stays (Ptr (suc (suc n))) block h = absurd (cc)
none_stays (Static s) block h = absurd (cc)
none_stays _ block h = absurd (cc)

none_settled : (x : Value) (block : Block) → found blocks [] x ≡ Some block → is_settled layout block.kind ≡ true → use_of ghost x ≡ Some (Stays block)
none_settled (Ptr zero) block h k = (let q : 2 ≡ block.kind = cc in let e : false ≡ true = ap (is_settled layout) q ∙ k in absurd (cc))
none_settled (Ptr (suc zero)) block h k = (let q : 1 ≡ block.kind = cc in let e : false ≡ true = ap (is_settled layout) q ∙ k in absurd (cc))
none_settled (Ptr (suc (suc n))) block h k = absurd (cc)
none_settled (Static s) block h k = absurd (cc)
none_settled _ block h k = absurd (cc)

same_home : {x y : Home} → Some x ≡ Some y → x ≡ y
same_home h = cc

the_list : ListAt layout known ghost heap 1000 blocks [] 1 0 (Ptr 1)
the_list = record {
  items = MeantWord (pos 7) ∷ MeantWord (negsuc 1) ∷ [];
  object = refl;
  array = Ptr 0;
  values = Word (pos 7) ∷ Word (negsuc 1) ∷ [];
  spare = Unset ∷ [];
  head_use = refl;
  array_use = refl;
  head_is = refl;
  array_is = refl;
  each = More (a_word (pos 7) (omega (arith, ints))) (More (a_word (negsuc 1) (omega (arith, ints))) Empty);
  empty = (refl, tt);
  long = omega arith;
  room = omega arith;
}

abbrev list_in : Sort → ℕ
list_in (ListOf n) = n
list_in other = 0

the_lists : (n i : ℕ) (head : Value) → slice_get ghost.homes i ≡ Some (record { sort = ListOf n; head = head }) → is_list layout n ≡ true → ListAt layout known ghost heap 1000 blocks [] n i head
the_lists n zero head h struct =
    let q = same_home h in
    subst (λ k. ListAt layout known ghost heap 1000 blocks [] k 0 head) (ap (λ (x : Home). list_in x.sort) q)
    (subst (λ y. ListAt layout known ghost heap 1000 blocks [] 1 0 y) (ap (λ (x : Home). x.head) q) the_list)
the_lists n (suc i) head h struct = absurd (cc)

no_instances : (class i : ℕ) (head : Value) → slice_get ghost.homes i ≡ Some (record { sort = InstanceOf class; head = head }) → InstanceAt layout known ghost heap blocks [] class i head
no_instances class zero head h = absurd (let q : ListOf 1 ≡ InstanceOf class = ap (λ (x : Home). x.sort) (same_home h) in cc)
no_instances class (suc i) head h = absurd (cc)

pub two_words : TwoWords
two_words = record { made = refl; fixed = refl; homes = refl; few = omega arith; stays = none_stays; settled = none_settled; constants = λ s block h. absurd (cc); vtables = λ class l h. absurd (cc); exceptions = λ class l h k. absurd (cc); sites = λ site home h. absurd (cc); lists = the_lists; instances = no_instances; dicts = λ n i head m h is. absurd (cc) }

-- ---- an instance

a_seven : Holds class_layout class_known instance_ghost (Some element.Int) (Word (pos 7)) (MeantWord (pos 7))
a_seven = Plain refl (subst (λ t. Stands instance_ghost t (Word (pos 7)) (MeantWord (pos 7))) (sym (place_of_words class_layout (Some element.Int) refl)) (word (pos 7) (omega (arith, ints))))

vtables_stay : (v : Value) (block : Block) → use_of instance_ghost v ≡ Some (Stays block) → found instance_blocks statics v ≡ Some block
vtables_stay (Ptr zero) block h = absurd (cc)
vtables_stay (Ptr (suc n)) block h = absurd (cc)
vtables_stay (Static zero) block h = (let q : vtable_block 1 (vtable 13) ≡ block = cc in ap Some q)
vtables_stay (Static (suc zero)) block h = (let q : vtable_block 1 (vtable 14) ≡ block = cc in ap Some q)
vtables_stay (Static (suc (suc n))) block h = absurd (cc)
vtables_stay _ block h = absurd (cc)

no_string : (v : Value) (block : Block) → found instance_blocks statics v ≡ Some block → is_settled class_layout block.kind ≡ true → use_of instance_ghost v ≡ Some (Stays block)
no_string (Ptr zero) block h k = (let q : 3 ≡ block.kind = cc in let e : false ≡ true = ap (is_settled class_layout) q ∙ k in absurd (cc))
no_string (Ptr (suc n)) block h k = absurd (cc)
no_string (Static zero) block h k = (let q : 1 ≡ block.kind = cc in let e : false ≡ true = ap (is_settled class_layout) q ∙ k in absurd (cc))
no_string (Static (suc zero)) block h k = (let q : 1 ≡ block.kind = cc in let e : false ≡ true = ap (is_settled class_layout) q ∙ k in absurd (cc))
no_string (Static (suc (suc n))) block h k = absurd (cc)
no_string _ block h k = absurd (cc)

same_laid : {a b : Laid} → Some a ≡ Some b → a ≡ b
same_laid h = cc

abbrev HasVtable : ℕ → Laid → Type 0
HasVtable class l = use_of instance_ghost (vtable class).at ≡ Some (Stays (vtable_block l.vtable (vtable class)))

the_vtables : (class : ℕ) (l : Laid) → laid_in classes class ≡ Some l → HasVtable class l
the_vtables (suc (suc (suc (suc (suc (suc (suc (suc (suc (suc (suc (suc (suc zero))))))))))))) l h = subst (HasVtable 13) (same_laid h) refl
the_vtables (suc (suc (suc (suc (suc (suc (suc (suc (suc (suc (suc (suc (suc (suc zero)))))))))))))) l h = subst (HasVtable 14) (same_laid h) refl
the_vtables (suc (suc (suc (suc (suc (suc (suc (suc (suc (suc (suc (suc (suc (suc (suc n))))))))))))))) l h = absurd (cc)
the_vtables zero l h = absurd (cc)
the_vtables (suc zero) l h = absurd (cc)
the_vtables (suc (suc zero)) l h = absurd (cc)
the_vtables (suc (suc (suc zero))) l h = absurd (cc)
the_vtables (suc (suc (suc (suc zero)))) l h = absurd (cc)
the_vtables (suc (suc (suc (suc (suc zero))))) l h = absurd (cc)
the_vtables (suc (suc (suc (suc (suc (suc zero)))))) l h = absurd (cc)
the_vtables (suc (suc (suc (suc (suc (suc (suc zero))))))) l h = absurd (cc)
the_vtables (suc (suc (suc (suc (suc (suc (suc (suc zero)))))))) l h = absurd (cc)
the_vtables (suc (suc (suc (suc (suc (suc (suc (suc (suc zero))))))))) l h = absurd (cc)
the_vtables (suc (suc (suc (suc (suc (suc (suc (suc (suc (suc zero)))))))))) l h = absurd (cc)
the_vtables (suc (suc (suc (suc (suc (suc (suc (suc (suc (suc (suc zero))))))))))) l h = absurd (cc)
the_vtables (suc (suc (suc (suc (suc (suc (suc (suc (suc (suc (suc (suc zero)))))))))))) l h = absurd (cc)

no_builtins : (class : ℕ) (l : Laid) → class < 13 → laid_in classes class ≡ Some l → ⊥
no_builtins (suc (suc (suc (suc (suc (suc (suc (suc (suc (suc (suc (suc (suc n))))))))))))) l h k = absurd (omega (arith, h))
no_builtins zero l h k = absurd (cc)
no_builtins (suc zero) l h k = absurd (cc)
no_builtins (suc (suc zero)) l h k = absurd (cc)
no_builtins (suc (suc (suc zero))) l h k = absurd (cc)
no_builtins (suc (suc (suc (suc zero)))) l h k = absurd (cc)
no_builtins (suc (suc (suc (suc (suc zero))))) l h k = absurd (cc)
no_builtins (suc (suc (suc (suc (suc (suc zero)))))) l h k = absurd (cc)
no_builtins (suc (suc (suc (suc (suc (suc (suc zero))))))) l h k = absurd (cc)
no_builtins (suc (suc (suc (suc (suc (suc (suc (suc zero)))))))) l h k = absurd (cc)
no_builtins (suc (suc (suc (suc (suc (suc (suc (suc (suc zero))))))))) l h k = absurd (cc)
no_builtins (suc (suc (suc (suc (suc (suc (suc (suc (suc (suc zero)))))))))) l h k = absurd (cc)
no_builtins (suc (suc (suc (suc (suc (suc (suc (suc (suc (suc (suc zero))))))))))) l h k = absurd (cc)
no_builtins (suc (suc (suc (suc (suc (suc (suc (suc (suc (suc (suc (suc zero)))))))))))) l h k = absurd (cc)

same_standing : {a b : Standing} → Some a ≡ Some b → a ≡ b
same_standing h = cc

abbrev fields : List Value
fields = Static 1 ∷ Word (pos 7) ∷ Flag true ∷ Null ∷ Flag false ∷ []

abbrev ShowsAt : Option Meant → Standing → Type 0
ShowsAt o s = Shows class_layout class_known instance_ghost s.element o (read fields (value_at class_layout s)) (read fields (set_at class_layout s))

x_shows : ShowsAt (Some (MeantWord (pos 7))) (record { own = 2; place = 0; element = element.Int })
unfolding shapes_from
x_shows = (refl, a_seven)

y_shows : ShowsAt None (record { own = 3; place = 0; element = element.Instance 13 true })
unfolding shapes_from
y_shows = (refl, refl, refl)

the_fields : (name : List ℕ) (s : Standing) → attribute 14 name ≡ Some s → ShowsAt (named name ((x, MeantWord (pos 7)) ∷ [])) s
the_fields name s h = by (bytes_eq x name) (bytes_eq y name) h
  where
    by : (a b : Bool) → (if a then Some (record { own = 2; place = 0; element = element.Int }) else if b then Some (record { own = 3; place = 0; element = element.Instance 13 true }) else None) ≡ Some s → ShowsAt (if a then Some (MeantWord (pos 7)) else None) s
    by true b h = subst (ShowsAt (Some (MeantWord (pos 7)))) (same_standing h) x_shows
    by false true h = subst (ShowsAt None) (same_standing h) y_shows
    by false false h = absurd (cc)

the_instance : InstanceAt class_layout class_known instance_ghost instance_heap instance_blocks statics 14 0 (Ptr 0)
unfolding shapes_from
the_instance = record {
  attributes = (x, MeantWord (pos 7)) ∷ [];
  object = refl;
  laid = below;
  is_laid = refl;
  fields = fields;
  head_use = refl;
  block_is = refl;
  size = refl;
  vtable = refl;
  shows = the_fields;
}

abbrev class_in : Sort → ℕ
class_in (InstanceOf class) = class
class_in other = 0

the_instances : (class i : ℕ) (head : Value) → slice_get instance_ghost.homes i ≡ Some (record { sort = InstanceOf class; head = head }) → InstanceAt class_layout class_known instance_ghost instance_heap instance_blocks statics class i head
the_instances class zero head h =
    let q = same_home h in
    subst (λ k. InstanceAt class_layout class_known instance_ghost instance_heap instance_blocks statics k 0 head) (ap (λ (h : Home). class_in h.sort) q)
    (subst (λ y. InstanceAt class_layout class_known instance_ghost instance_heap instance_blocks statics 14 0 y) (ap (λ (h : Home). h.head) q) the_instance)
the_instances class (suc i) head h = absurd (cc)

no_lists : (n i : ℕ) (head : Value) → slice_get instance_ghost.homes i ≡ Some (record { sort = ListOf n; head = head }) → ⊥
no_lists n zero head h = (let q : InstanceOf 14 ≡ ListOf n = ap (λ (h : Home). h.sort) (same_home h) in absurd (cc))
no_lists n (suc i) head h = absurd (cc)

pub an_instance : AnInstance
an_instance = record {
  made = refl;
  fixed = refl;
  homes = refl;
  few = omega arith;
  stays = vtables_stay;
  settled = no_string;
  constants = λ s block h. absurd (cc);
  vtables = the_vtables;
  exceptions = λ class l h k. absurd (no_builtins class l h k);
  sites = λ site home h. absurd (cc);
  lists = λ n i head h struct. absurd (no_lists n i head h);
  instances = the_instances;
  dicts = λ n i head m h is. absurd (cc);
}

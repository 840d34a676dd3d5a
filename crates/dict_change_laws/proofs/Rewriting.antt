-- The blocks of one dict are written, and no other.
use Rattle.std.proofs.Common.{◌≡◌, ◌⊎◌, inl, inr, List, length, Option, Some, refl, sym, ap, ◌∙◌, subst}
use Rattle.std.proofs.lemmas.Bool.{cases_eq}
use Rattle.csub_tree.specs.State.{Value, Ptr, Static, Block}
use Rattle.ll_texts.specs.Texts.{found}
use Rattle.object_laws.proofs.Changing.{Wrote}

-- each block keeps its struct, and what is not mine is what it was
pub record Rewrote (Mine : Value → Type 0) (blocks : List (Option Block)) (statics : List Block) (blocks2 : List (Option Block)) (statics2 : List Block) : Type 0 where
  pub others : (x : Value) → (Mine x → ⊥) → found blocks2 statics2 x ≡ found blocks statics x
  pub kinds : (x : Value) (new : Block) → found blocks2 statics2 x ≡ Some new → (old : Block) × ((found blocks statics x ≡ Some old) × (old.kind ≡ new.kind))
  pub made : length blocks2 ≡ length blocks
  pub fixed : length statics2 ≡ length statics

-- a value that names a block is another, or it is not
pub names_one : (blocks : List (Option Block)) (statics : List Block) (x y : Value) (b : Block) → found blocks statics x ≡ Some b → (x ≡ y) ⊎ (x ≡ y → ⊥)
names_one blocks statics (Ptr n) (Ptr m) b h = by (cases_eq n m)
  where
    by : (n ≡ m) ⊎ (n ≡ m → ⊥) → (Ptr n ≡ Ptr m) ⊎ (Ptr n ≡ Ptr m → ⊥)
    by (inl e) = inl (ap Ptr e)
    by (inr apart) = inr (λ e. apart (let q : n ≡ m = cc in q))
names_one blocks statics (Static n) (Static m) b h = by (cases_eq n m)
  where
    by : (n ≡ m) ⊎ (n ≡ m → ⊥) → (Static n ≡ Static m) ⊎ (Static n ≡ Static m → ⊥)
    by (inl e) = inl (ap Static e)
    by (inr apart) = inr (λ e. apart (let q : n ≡ m = cc in q))
names_one blocks statics (Ptr n) _ b h = inr (λ e. absurd (cc))
names_one blocks statics (Static n) _ b h = inr (λ e. absurd (cc))
names_one blocks statics _ y b h = absurd (cc)

one_block : {b c : Block} → Some b ≡ Some c → b ≡ c
one_block h = cc

module _ {Mine : Value → Type 0} where
  pub rewrote_none : {blocks : List (Option Block)} {statics : List Block} → Rewrote Mine blocks statics blocks statics
  rewrote_none = record { others = λ x apart. refl; kinds = λ x new h. (new, (h, refl)); made = refl; fixed = refl }

  pub rewrote_more : {bs bs1 bs2 : List (Option Block)} {ss ss1 ss2 : List Block} {at : Value} {old new : Block} → Rewrote Mine bs ss bs1 ss1 → Mine at → found bs1 ss1 at ≡ Some old → old.kind ≡ new.kind → Wrote bs1 ss1 at new bs2 ss2 → Rewrote Mine bs ss bs2 ss2
  rewrote_more {bs = bs} {bs1 = bs1} {bs2 = bs2} {ss = ss} {ss1 = ss1} {ss2 = ss2} {at = at} {old = old} {new = new} before mine is kind wrote = record {
    others = λ x apart. wrote.others x (λ e. apart (subst Mine (sym e) mine)) ∙ before.others x apart;
    kinds = λ x block h. by x block h (names_one bs2 ss2 x at block h);
    made = wrote.made ∙ before.made;
    fixed = wrote.fixed ∙ before.fixed;
  }
    where
      by : (x : Value) (block : Block) → found bs2 ss2 x ≡ Some block → (x ≡ at) ⊎ (x ≡ at → ⊥) → (first : Block) × ((found bs ss x ≡ Some first) × (first.kind ≡ block.kind))
      by x block h (inl e) =
          let q : new ≡ block = one_block (sym wrote.there ∙ ap (found bs2 ss2) (sym e) ∙ h) in
          let k = before.kinds x old (ap (found bs1 ss1) e ∙ is) in
          (k.0, (k.1.0, k.1.1 ∙ kind ∙ ap (λ (b : Block). b.kind) q))
      by x block h (inr apart) = before.kinds x block (sym (wrote.others x apart) ∙ h)

-- ---- the three blocks of a dict

-- these are the blocks of the head and the two arrays
pub record Have (Mine : Value → Type 0) (head one two : Value) (bs0 : List (Option Block)) (ss0 : List Block) (bs : List (Option Block)) (ss : List Block) (h o t : Block) : Type 0 where
  pub rewrote : Rewrote Mine bs0 ss0 bs ss
  pub head_is : found bs ss head ≡ Some h
  pub first_is : found bs ss one ≡ Some o
  pub second_is : found bs ss two ≡ Some t

-- they are mine, and three
pub record Three (Mine : Value → Type 0) (head one two : Value) : Type 0 where
  pub head_mine : Mine head
  pub first_mine : Mine one
  pub second_mine : Mine two
  pub head_first : head ≡ one → ⊥
  pub head_second : head ≡ two → ⊥
  pub first_second : one ≡ two → ⊥

module _ {Mine : Value → Type 0} {head one two : Value} (three : Three Mine head one two) {bs0 bs bs2 : List (Option Block)} {ss0 ss ss2 : List Block} {h o t new : Block} (have : Have Mine head one two bs0 ss0 bs ss h o t) where
  pub have_head : h.kind ≡ new.kind → Wrote bs ss head new bs2 ss2 → Have Mine head one two bs0 ss0 bs2 ss2 new o t
  have_head kind wrote = record {
    rewrote = rewrote_more have.rewrote three.head_mine have.head_is kind wrote;
    head_is = wrote.there;
    first_is = wrote.others one (λ e. three.head_first (sym e)) ∙ have.first_is;
    second_is = wrote.others two (λ e. three.head_second (sym e)) ∙ have.second_is;
  }

  pub have_first : o.kind ≡ new.kind → Wrote bs ss one new bs2 ss2 → Have Mine head one two bs0 ss0 bs2 ss2 h new t
  have_first kind wrote = record {
    rewrote = rewrote_more have.rewrote three.first_mine have.first_is kind wrote;
    head_is = wrote.others head three.head_first ∙ have.head_is;
    first_is = wrote.there;
    second_is = wrote.others two (λ e. three.first_second (sym e)) ∙ have.second_is;
  }

  pub have_second : t.kind ≡ new.kind → Wrote bs ss two new bs2 ss2 → Have Mine head one two bs0 ss0 bs2 ss2 h o new
  have_second kind wrote = record {
    rewrote = rewrote_more have.rewrote three.second_mine have.second_is kind wrote;
    head_is = wrote.others head three.head_second ∙ have.head_is;
    first_is = wrote.others one three.first_second ∙ have.first_is;
    second_is = wrote.there;
  }

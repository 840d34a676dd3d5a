-- The structs of classes: each class has its own, behind that of its base, and the topmost struct and that of vtables of its base.
use Rattle.std.proofs.Common.{◌≡◌, ◌⊎◌, inl, inr, ◌<◌, ◌≤◌, ℕ, ◌+◌, Bool, true, false, List, [], ◌∷◌, ◌++◌, length, Option, Some, None, refl, sym, ap, ◌∙◌, subst, arith, length-append, append_assoc}
use Rattle.std.specs.Prelude.{slice_get, slice_set, replicate, nat_lt, if◌then◌else◌}
use Rattle.std.proofs.lemmas.Bool.{ltb-false, cases_eq}
use Rattle.std.proofs.lemmas.List.{length-set, length-replicate, append-nil}
use Rattle.rpy_tree.specs.declared.program.ClassInfo.{ClassInfo}
use Rattle.class_desc.specs.Line.{base}
use Rattle.class_desc.proofs.Intervals.{Among}
use Rattle.rtyper_layout.specs.declared.classes.Laid.{Laid}
use Rattle.rtyper_layout.specs.Families.{one_more, tops, topmost, under, laid_of, set_laid, lay_from}
use Rattle.rtyper_layout.specs.Types.{word, laid_in}
use Rattle.layout_laws.proofs.Order.{Based, Ordered}
use Rattle.layout_laws.proofs.Places.{same_some, no_some, get_left, get_last, get_within, get_among, among_either, laid_here, laid_there, none_laid}

pub record Higher (all : List (Option Laid)) (l : Laid) (b : ℕ) : Type 0 where
  pub m : Laid
  pub is : laid_in all b ≡ Some m
  pub root : l.root ≡ m.root
  pub vtable : l.vtable ≡ m.vtable
  pub place : m.place < l.place

abbrev pub Above : List (Option Laid) → Laid → Option ℕ → Type 0
Above all l None = l.root ≡ l.own
Above all l (Some b) = Higher all l b

module _ (classes : List ClassInfo) (first : ℕ) where
  pub record Fits (done : List ℕ) (all : List (Option Laid)) (c : ℕ) (l : Laid) : Type 0 where
    pub at : slice_get done l.place ≡ Some c
    pub own : l.own ≡ word (first + l.place)
    pub above : Above all l (base classes c)
    pub low : 0 < l.vtable
    pub high : l.vtable ≤ tops classes done

  pub record Lying (done : List ℕ) (all : List (Option Laid)) : Type 0 where
    pub long : length all ≡ length classes
    pub have : (d : ℕ) → Among d done → (m : Laid) × (laid_in all d ≡ Some m)
    pub each : (c : ℕ) (l : Laid) → laid_in all c ≡ Some l → Fits done all c l

  more_commute : (a b : Option ℕ) (k : ℕ) → one_more a (one_more b k) ≡ one_more b (one_more a k)
  more_commute None None k = refl
  more_commute None (Some b) k = refl
  more_commute (Some a) b k = refl

  tops_last : (done : List ℕ) (c : ℕ) → tops classes (done ++ c ∷ []) ≡ one_more (base classes c) (tops classes done)
  tops_last [] c = refl
  tops_last (d ∷ done) c = ap (one_more (base classes d)) (tops_last done c) ∙ more_commute (base classes d) (base classes c) (tops classes done)

  more_than : (o : Option ℕ) (k : ℕ) → k ≤ one_more o k
  more_than None k = omega arith
  more_than (Some b) k = omega arith

  -- ---- one class more

  module _ (done : List ℕ) (all : List (Option Laid)) (lying : Lying done all) (c : ℕ) (lt : c < length classes) (fresh : Among c done → ⊥) where
    not_yet : (l : Laid) → laid_in all c ≡ Some l → ⊥
    not_yet l h = fresh (get_among done l.place c (lying.each c l h).at)

    high_kept : (l : Laid) → l.vtable ≤ tops classes done → l.vtable ≤ tops classes (done ++ c ∷ [])
    high_kept l le = omega (arith, le, tops_last done c, more_than (base classes c) (tops classes done))

    -- what was there is as it was
    same_else : (d : ℕ) (m l : Laid) → laid_in all d ≡ Some m → laid_in (slice_set all c (Some l)) d ≡ Some m
    same_else d m l h = laid_there all c d (Some l) (λ e. not_yet m (ap (laid_in all) e ∙ h)) ∙ h

    above_kept : (l m : Laid) (o : Option ℕ) → Above all m o → Above (slice_set all c (Some l)) m o
    above_kept l m None h = h
    above_kept l m (Some b) h = record { m = h.m; is = same_else b h.m l h.is; root = h.root; vtable = h.vtable; place = h.place }

    record New (l : Laid) : Type 0 where
      at : l.place ≡ length done
      own : l.own ≡ word (first + l.place)
      above : Above all l (base classes c)
      low : 0 < l.vtable
      high : l.vtable ≤ tops classes (done ++ c ∷ [])

    lies_more : (l : Laid) → New l → Lying (done ++ c ∷ []) (slice_set all c (Some l))
    lies_more l new = record {
      long = length-set all c (Some l) ∙ lying.long;
      have = λ d there. have_it d (among_either d done c there);
      each = λ d m h. each_it d m h (cases_eq c d);
    }
      where
        here : laid_in (slice_set all c (Some l)) c ≡ Some l
        here = laid_here all c l (omega (arith, lt, lying.long))

        have_it : (d : ℕ) → Among d done ⊎ (c ≡ d) → (m : Laid) × (laid_in (slice_set all c (Some l)) d ≡ Some m)
        have_it d (inl there) = (let old = lying.have d there in (old.0, same_else d old.0 l old.1))
        have_it d (inr e) = (l, subst (λ x. laid_in (slice_set all c (Some l)) x ≡ Some l) e here)

        fits_here : Fits (done ++ c ∷ []) (slice_set all c (Some l)) c l
        fits_here = record {
          at = get_last done c l.place new.at;
          own = new.own;
          above = above_kept l l (base classes c) new.above;
          low = new.low;
          high = new.high;
        }

        each_it : (d : ℕ) (m : Laid) → laid_in (slice_set all c (Some l)) d ≡ Some m → (c ≡ d) ⊎ (c ≡ d → ⊥) → Fits (done ++ c ∷ []) (slice_set all c (Some l)) d m
        each_it d m h (inl e) =
            let same : l ≡ m = same_some (sym here ∙ ap (laid_in (slice_set all c (Some l))) e ∙ h) in
            subst (λ x. Fits (done ++ c ∷ []) (slice_set all c (Some l)) x m) e (subst (Fits (done ++ c ∷ []) (slice_set all c (Some l)) c) same fits_here)
        each_it d m h (inr ne) =
            let old = lying.each d m (sym (laid_there all c d (Some l) ne) ∙ h) in
            record {
              at = get_left done (c ∷ []) m.place d old.at;
              own = old.own;
              above = above_kept l m (base classes d) old.above;
              low = old.low;
              high = high_kept m old.high;
            }

    -- the one that is laid
    module _ (place vtable : ℕ) (place_is : place ≡ length done) (vtable_is : vtable ≡ tops classes done) where
      tops_now : tops classes (done ++ c ∷ []) ≡ one_more (base classes c) vtable
      tops_now = tops_last done c ∙ ap (one_more (base classes c)) (sym vtable_is)

      new_laid : (o : Option ℕ) → base classes c ≡ o → Based done o → New (laid_of o (word (first + place)) place (one_more o vtable) all)
      new_laid None e based = record {
        at = place_is;
        own = refl;
        above = subst (Above all (topmost (word (first + place)) (vtable + 1) place)) (sym e) refl;
        low = omega arith;
        high = (let now : tops classes (done ++ c ∷ []) ≡ vtable + 1 = tops_now ∙ ap (λ x. one_more x vtable) e in omega (arith, now));
      }
      new_laid (Some b) e based =
          let old = lying.have b based in
          let fits = lying.each b old.0 old.1 in
          let now : tops classes (done ++ c ∷ []) ≡ vtable = tops_now ∙ ap (λ x. one_more x vtable) e in
          let l : Laid = record { own = word (first + place); root = old.0.root; vtable = old.0.vtable; place = place } in
          let higher : Higher all l b = record { m = old.0; is = old.1; root = refl; vtable = refl; place = (let z = get_within done old.0.place b fits.at in omega (arith, z, place_is)) } in
          let new : New l = record {
            at = place_is;
            own = refl;
            above = subst (Above all l) (sym e) higher;
            low = fits.low;
            high = omega (arith, now, fits.high, vtable_is);
          } in
          subst New (ap (under (word (first + place)) vtable place) (sym old.1)) new

      lies_next : Based done (base classes c) → Lying (done ++ c ∷ []) (set_laid c (laid_of (base classes c) (word (first + place)) place (one_more (base classes c) vtable) all) all)
      lies_next based = by (nat_lt c (length all)) refl
        where
          l : Laid
          l = laid_of (base classes c) (word (first + place)) place (one_more (base classes c) vtable) all

          by : (b : Bool) → nat_lt c (length all) ≡ b → Lying (done ++ c ∷ []) (if b then slice_set all c (Some (laid_of (base classes c) (word (first + place)) place (one_more (base classes c) vtable) all)) else all)
          by true e = lies_more (laid_of (base classes c) (word (first + place)) place (one_more (base classes c) vtable) all) (new_laid (base classes c) refl based)
          by false e = absurd (omega (arith, lt, lying.long, ltb-false c (length all) e))

  -- ---- all of them

  lies_all : (done cs : List ℕ) (place vtable : ℕ) (all : List (Option Laid)) → place ≡ length done → vtable ≡ tops classes done → Lying done all → Ordered classes done cs → Lying (done ++ cs) (lay_from classes first place vtable all cs)
  lies_all done [] place vtable all p v lying ordered = subst (λ d. Lying d all) (sym (append-nil done)) lying
  lies_all done (c ∷ cs) place vtable all p v lying ordered =
      subst (λ d. Lying d (lay_from classes first place vtable all (c ∷ cs))) (append_assoc done (c ∷ []) cs)
      (lies_all (done ++ c ∷ []) cs (place + 1) (one_more (base classes c) vtable) (set_laid c (laid_of (base classes c) (word (first + place)) place (one_more (base classes c) vtable) all) all)
      (omega (arith, p, length-append done (c ∷ [])))
      (ap (one_more (base classes c)) v ∙ sym (tops_last done c))
      (lies_next done all lying c ordered.0 ordered.1 place vtable p v ordered.2)
      ordered.3)

  no_laid : Lying [] (replicate (length classes) None)
  no_laid = record {
    long = length-replicate (length classes) None;
    have = λ d there. absurd there;
    each = λ c l h. absurd (no_some (sym (none_laid (length classes) c) ∙ h));
  }

  pub lies : (order : List ℕ) → Ordered classes [] order → Lying order (lay_from classes first 0 0 (replicate (length classes) None) order)
  lies order ordered = lies_all [] order 0 0 (replicate (length classes) None) refl refl no_laid ordered

-- Helpers and the graphs that they call are found at their numbers.
use Rattle.std.proofs.Common.{◌≡◌, ◌<◌, ◌^◌, ℕ, zero, suc, Bool, true, false, ◌&&◌, ◌||◌, List, [], ◌∷◌, ◌++◌, length, map, Some, refl, sym, ap, ◌∙◌, append_assoc, length-append}
use Rattle.std.proofs.lemmas.List.{length-map}
use Rattle.std.specs.Prelude.{slice_get, cond, nat_lt}
use Rattle.csub_tree.specs.State.{Core}
use Rattle.ll_code.specs.declared.program.LlGraph.{LlGraph}
use Rattle.ll_code.specs.declared.program.LlProgram.{LlProgram}
use Rattle.ll_helpers.specs.Helpers.{graph_for, helper_graph, shared_graph, if_used, shared_graphs, helper_graphs}
use Rattle.ll_build.specs.Needs.{uses, names_texts, is_used, all_shared, rank, stands_before, one_more, number_from, numbers_of}
use Rattle.ll_build.specs.declared.needs.Need.{Need}
use Rattle.ll_build.specs.declared.needs.Numbers.{Numbers}
use Rattle.ll_build.specs.declared.needs.Shared.{Shared}
use Rattle.ll_build.specs.declared.needs.Shared.TheVariants as shared
use Rattle.ll_texts.specs.Texts.{HasText, HasStatics}
use Rattle.ll_strings.specs.Laws.{number_in, HasHelper}

module _ {A : Type 0} where
  pub get_more : (xs more : List A) (k : ℕ) (x : A) → slice_get xs k ≡ Some x → slice_get (xs ++ more) k ≡ Some x
  get_more [] more k x e = absurd (cc)
  get_more (y ∷ xs) more zero x e = e
  get_more (y ∷ xs) more (suc k) x e = get_more xs more k x e

  pub get_behind : (pre : List A) (x : A) (post : List A) → slice_get (pre ++ x ∷ post) (length pre) ≡ Some x
  get_behind [] x post = refl
  get_behind (y ∷ pre) x post = get_behind pre x post

need_graph : (numbers : Numbers) (needs : List Need) (i : ℕ) (need : Need) → slice_get needs i ≡ Some need → slice_get (map (helper_graph numbers) needs) i ≡ Some (graph_for numbers need.helper)
need_graph numbers [] i need e = absurd (cc)
need_graph numbers (n ∷ needs) zero need e = (let q : n ≡ need = cc in ap (λ (n : Need). Some (graph_for numbers n.helper)) q)
need_graph numbers (n ∷ needs) (suc i) need e = need_graph numbers needs i need e

used_by : (needs : List Need) (i : ℕ) (need : Need) (g : Shared) → slice_get needs i ≡ Some need → uses g need.helper ≡ true → is_used needs g ≡ true
used_by [] i need g e h = absurd (cc)
used_by (n ∷ needs) zero need g e h = (let q : n ≡ need = cc in let u : uses g n.helper ≡ true = ap (λ (n : Need). uses g n.helper) q ∙ h in ap (λ b. b || is_used needs g) u)
used_by (n ∷ needs) (suc i) need g e h = one (uses g n.helper) (used_by needs i need g e h)
  where
    one : (b : Bool) → is_used needs g ≡ true → (b || is_used needs g) ≡ true
    one true k = refl
    one false k = k

-- ---- the order of the graphs

abbrev AllLater : Shared → List Shared → Type 0
AllLater g [] = Unit {0}
AllLater g (o ∷ os) = (nat_lt (rank o) (rank g) ≡ false) × AllLater g os

data Within (g : Shared) : List Shared → Type 0 where
  Here : {os : List Shared} → nat_lt (rank g) (rank g) ≡ false → AllLater g os → Within g (g ∷ os)
  There : {o : Shared} {os : List Shared} → nat_lt (rank o) (rank g) ≡ true → Within g os → Within g (o ∷ os)

module _ (needs : List Need) (numbers : Numbers) (g : Shared) (used : is_used needs g ≡ true) where
  none_before : (n : ℕ) (os : List Shared) → AllLater g os → number_from needs g n os ≡ n
  none_before n [] h = refl
  none_before n (o ∷ os) (h, hs) = ap (λ b. number_from needs g (one_more n (b && is_used needs o)) os) h ∙ none_before n os hs

  placed : (os : List Shared) → Within g os → (pre : List LlGraph) → slice_get (pre ++ shared_graphs numbers needs os) (number_from needs g (length pre) os) ≡ Some (shared_graph numbers g)
  placed [] h pre = elim h [ ]
  placed (o ∷ os) (Here same later) pre =
      ap (slice_get (pre ++ (if_used numbers needs g ++ shared_graphs numbers needs os))) (ap (λ b. number_from needs g (one_more (length pre) (b && is_used needs g)) os) same ∙ none_before (length pre) os later)
      ∙ ap (λ b. slice_get (pre ++ (cond b (shared_graph numbers g ∷ []) [] ++ shared_graphs numbers needs os)) (length pre)) used
      ∙ get_behind pre (shared_graph numbers g) (shared_graphs numbers needs os)
  placed (o ∷ os) (There before later) pre = by (is_used needs o) refl (placed os later (pre ++ shared_graph numbers o ∷ [])) (placed os later pre)
    where
      by : (u : Bool) → is_used needs o ≡ u
          → slice_get ((pre ++ shared_graph numbers o ∷ []) ++ shared_graphs numbers needs os) (number_from needs g (length (pre ++ shared_graph numbers o ∷ [])) os) ≡ Some (shared_graph numbers g)
          → slice_get (pre ++ shared_graphs numbers needs os) (number_from needs g (length pre) os) ≡ Some (shared_graph numbers g)
          → slice_get (pre ++ (if_used numbers needs o ++ shared_graphs numbers needs os)) (number_from needs g (one_more (length pre) (stands_before needs o g)) os) ≡ Some (shared_graph numbers g)
      by true e with_it without =
          ap (λ b. slice_get (pre ++ (cond b (shared_graph numbers o ∷ []) [] ++ shared_graphs numbers needs os)) (number_from needs g (one_more (length pre) (nat_lt (rank o) (rank g) && b)) os)) e
          ∙ ap (λ b. slice_get (pre ++ (shared_graph numbers o ∷ shared_graphs numbers needs os)) (number_from needs g (one_more (length pre) (b && true)) os)) before
          ∙ ap (λ n. slice_get (pre ++ (shared_graph numbers o ∷ shared_graphs numbers needs os)) (number_from needs g n os)) (sym (length-append pre (shared_graph numbers o ∷ [])))
          ∙ ap (λ l. slice_get l (number_from needs g (length (pre ++ shared_graph numbers o ∷ [])) os)) (sym (append_assoc pre (shared_graph numbers o ∷ []) (shared_graphs numbers needs os)))
          ∙ with_it
      by false e with_it without =
          ap (λ b. slice_get (pre ++ (cond b (shared_graph numbers o ∷ []) [] ++ shared_graphs numbers needs os)) (number_from needs g (one_more (length pre) (nat_lt (rank o) (rank g) && b)) os)) e
          ∙ ap (λ b. slice_get (pre ++ shared_graphs numbers needs os) (number_from needs g (one_more (length pre) (b && false)) os)) before
          ∙ without

in_order : (g : Shared) → Within g all_shared
unfolding all_shared
in_order shared.PrintDigits = Here refl (refl, (refl, (refl, (refl, (refl, (refl, (refl, (refl, (refl, (refl, (refl, (refl, tt))))))))))))
in_order shared.PutBytes = There refl (Here refl (refl, (refl, (refl, (refl, (refl, (refl, (refl, (refl, (refl, (refl, (refl, tt))))))))))))
in_order shared.CopyBytes = There refl (There refl (Here refl (refl, (refl, (refl, (refl, (refl, (refl, (refl, (refl, (refl, (refl, tt))))))))))))
in_order shared.StringPart = There refl (There refl (There refl (Here refl (refl, (refl, (refl, (refl, (refl, (refl, (refl, (refl, (refl, tt))))))))))))
in_order shared.RepeatBytes = There refl (There refl (There refl (There refl (Here refl (refl, (refl, (refl, (refl, (refl, (refl, (refl, (refl, tt))))))))))))
in_order shared.AlikeBytes = There refl (There refl (There refl (There refl (There refl (Here refl (refl, (refl, (refl, (refl, (refl, (refl, (refl, tt))))))))))))
in_order shared.FindBytes = There refl (There refl (There refl (There refl (There refl (There refl (Here refl (refl, (refl, (refl, (refl, (refl, (refl, tt))))))))))))
in_order shared.LessBytes = There refl (There refl (There refl (There refl (There refl (There refl (There refl (Here refl (refl, (refl, (refl, (refl, (refl, tt))))))))))))
in_order shared.CountDigits = There refl (There refl (There refl (There refl (There refl (There refl (There refl (There refl (Here refl (refl, (refl, (refl, (refl, tt))))))))))))
in_order shared.WriteDigits = There refl (There refl (There refl (There refl (There refl (There refl (There refl (There refl (There refl (Here refl (refl, (refl, (refl, tt))))))))))))
in_order shared.IsSpace = There refl (There refl (There refl (There refl (There refl (There refl (There refl (There refl (There refl (There refl (Here refl (refl, (refl, tt))))))))))))
in_order shared.SkipForwards = There refl (There refl (There refl (There refl (There refl (There refl (There refl (There refl (There refl (There refl (There refl (Here refl (refl, tt))))))))))))
in_order shared.SkipBackwards = There refl (There refl (There refl (There refl (There refl (There refl (There refl (There refl (There refl (There refl (There refl (There refl (Here refl tt))))))))))))

-- the number of a graph among the others
number_is : (needs : List Need) (table : ℕ) (g : Shared) → number_in (numbers_of needs all_shared table) g ≡ number_from needs g (length needs) all_shared
number_is needs table shared.PrintDigits = refl
number_is needs table shared.PutBytes = refl
number_is needs table shared.CopyBytes = refl
number_is needs table shared.StringPart = refl
number_is needs table shared.RepeatBytes = refl
number_is needs table shared.AlikeBytes = refl
number_is needs table shared.FindBytes = refl
number_is needs table shared.LessBytes = refl
number_is needs table shared.CountDigits = refl
number_is needs table shared.WriteDigits = refl
number_is needs table shared.IsSpace = refl
number_is needs table shared.SkipForwards = refl
number_is needs table shared.SkipBackwards = refl

module _ (needs : List Need) (table : ℕ) (more graphs : List LlGraph) (begins : graphs ≡ helper_graphs needs table ++ more) (i : ℕ) (need : Need) (at : slice_get needs i ≡ Some need) where
  pub helper_found : slice_get graphs i ≡ Some (graph_for (numbers_of needs all_shared table) need.helper)
  helper_found =
      let numbers : Numbers = numbers_of needs all_shared table in
      ap (λ l. slice_get l i) begins
      ∙ get_more (helper_graphs needs table) more i (graph_for numbers need.helper)
      (get_more (map (helper_graph numbers) needs) (shared_graphs numbers needs all_shared) i (graph_for numbers need.helper) (need_graph numbers needs i need at))

  pub shared_found : (g : Shared) → uses g need.helper ≡ true → slice_get graphs (number_in (numbers_of needs all_shared table) g) ≡ Some (shared_graph (numbers_of needs all_shared table) g)
  shared_found g h =
      let numbers : Numbers = numbers_of needs all_shared table in
      let pre : List LlGraph = map (helper_graph numbers) needs in
      ap (slice_get graphs) (number_is needs table g)
      ∙ ap (λ l. slice_get l (number_from needs g (length needs) all_shared)) begins
      ∙ get_more (helper_graphs needs table) more (number_from needs g (length needs) all_shared) (shared_graph numbers g)
      (ap (λ n. slice_get (pre ++ shared_graphs numbers needs all_shared) (number_from needs g n all_shared)) (sym (length-map needs (helper_graph numbers)))
      ∙ placed needs numbers g (used_by needs i need g at h) all_shared (in_order g) pre)

pub helper_stands : (p : LlProgram) (needs : List Need) (table : ℕ) (more : List LlGraph) → p.graphs ≡ helper_graphs needs table ++ more → (i : ℕ) (need : Need) → slice_get needs i ≡ Some need → (core : Core) → HasText p → (names_texts need.helper ≡ true → HasStatics p table core.statics) → core.steps < 2 ^ 62 → HasHelper p (numbers_of needs all_shared table) need.helper i core
helper_stands p needs table more begins i need at core texts statics small = record {
  graph = helper_found needs table more p.graphs begins i need at;
  shared = shared_found needs table more p.graphs begins i need at;
  text = texts;
  statics = statics;
  small = small;
}

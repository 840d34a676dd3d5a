-- Ways joined.
use Rattle.std.proofs.Common.{◌≡◌, ◌≤◌, ℕ, ◌+◌, List, ◌++◌, arith}
use Rattle.ll_code.specs.State.{State}
use Rattle.ll_code.specs.declared.program.LlProgram.{LlProgram}
use Rattle.ll_leads.specs.Path.{Path, Stay, Go, Put, Tell, Leads, total}

module _ {p : LlProgram} {args : List (List ℕ)} where
  pub path_then : {s t u : State} {x y : List ℕ} → Path p args s x t → Path p args t y u → Path p args s (x ++ y) u
  path_then (Stay s) b = b
  path_then (Go e a) b = Go e (path_then a b)
  path_then (Put e a) b = Put e (path_then a b)
  path_then (Tell e a) b = Tell e (path_then a b)

  pub total_then : {s t u : State} {x y : List ℕ} (a : Path p args s x t) (b : Path p args t y u) → total (path_then a b) ≡ total a + total b
  unfolding path_then
  total_then (Stay s) b = omega arith
  total_then (Go e a) b = omega (arith, total_then a b)
  total_then (Put e a) b = omega (arith, total_then a b)
  total_then (Tell e a) b = omega (arith, total_then a b)

  pub leads_then : {d e : ℕ} {s t u : State} {x y : List ℕ} → Leads p args d s x t → Leads p args e t y u → Leads p args (d + e) s (x ++ y) u
  leads_then l m = record { path = path_then l.path m.path; few = (let a = l.few in let b = m.few in omega (arith, total_then l.path m.path)) }

  pub leads_more : {s t : State} {x : List ℕ} (d e : ℕ) → d ≤ e → Leads p args d s x t → Leads p args e s x t
  leads_more d e h l = record { path = l.path; few = (let a = l.few in omega arith) }

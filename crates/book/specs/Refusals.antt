-- What a refused call leaves: the whole book as it was (01, "a refusal .. leaves all as before"; 02, No. 2).
use Rattle.std.specs.Prelude.{ℕ, ◌≡◌, List}
use Rattle.ftd.specs.declared.refusal.Refusal.{Refusal}
use Rattle.book.specs.declared.calls.Book.{Book}
use Rattle.book.specs.Calls.{start_of, take_of}
use Rattle.std.specs.Prelude.{Err}

pub record RefusalsLeave : Type 0 where
  pub start : (b : Book) (code : List ℕ) (r : Refusal) → (start_of b code).answer ≡ Err r → (start_of b code).book ≡ b
  pub take : (b : Book) (tid : ℕ) (content : List ℕ) (r : Refusal) → (take_of b tid content).answer ≡ Err r
      → (take_of b tid content).book ≡ b

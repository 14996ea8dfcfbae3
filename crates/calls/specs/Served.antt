-- What the dispatch promises: for every request what all calls promise; and what is the reply to a frame.
use Rattle.std.specs.Prelude.{ℕ, ◌<◌, List, Ok, Err}
use Rattle.ledger.specs.Ledger.{Frame}
use Rattle.ledger.specs.Objects.{Reply}
use Rattle.ledger.specs.declared.Answer.{Answer}
use Rattle.ledger.specs.declared.Request.{Request}
use Rattle.stores.specs.Places.{InBlock}
use Rattle.record.specs.Reading.{block_bytes}
use Rattle.record.specs.declared.Pool.{Pool}
use Rattle.calls.specs.Contract.{Refuses, Obeys}

-- what any call gives back: its answer, the record that it leaves, and where the bytes of a read are
pub record Called : Type 0 where
  pub answer : Answer
  pub pool : Pool
  pub block : ℕ
  pub length : ℕ

abbrev pub without_bytes : Answer → Pool → Called
without_bytes answer p = record { answer = answer; pool = p; block = 0; length = 0 }

-- the reply: the answer with the bytes that it says where to find
abbrev pub reply_of : Called → List ℕ → List ℕ → Reply
reply_of r small large = record { answer = r.answer; bytes = block_bytes small large r.block r.length }

pub record Serves (request : Request) (new : List ℕ) (p : Pool) (small large : List ℕ) (r : Called) (small' large' : List ℕ) : Type 0 where
  pub obeys : Obeys request new p small large (reply_of r small' large') r.pool small' large'
  -- the bytes lie in a block of the stores
  pub inside : 0 < r.length → InBlock small' large' r.block r.length

-- the reply to a frame: one that the pool's contract allows for its request, or its refusal where it yields no call, with record and
-- stores the same
abbrev pub IsReplyTo : Frame → List ℕ → Pool → List ℕ → List ℕ → Reply → Pool → List ℕ → List ℕ → Type 0
IsReplyTo (Ok (request, count)) bytes p small large y p' small' large' = Obeys request bytes p small large y p' small' large'
IsReplyTo (Err why) bytes p small large y p' small' large' = Refuses why p small large y p' small' large'

-- The operations that are asked keep their bounds.
use Rattle.std.proofs.Common.{◌≡◌, ℕ, ◌^◌, ◌<◌, List, [], sym, subst, arith}
use Rattle.std.proofs.lemmas.List.Elements.{All-nil}
use Rattle.lnfs_arguments.specs.SharedTexts.{ChannelFits}
use Rattle.lnfs_arguments.specs.declared.types.Callback.{Callback}
use Rattle.lnfs_arguments.specs.declared.types.CreateSession.{CreateSession}
use Rattle.lnfs_requests.specs.Fits.{CallbackFits, CreateSessionFits}
use Rattle.lnfs_client.specs.Requests.{channel}

channel_fits : ChannelFits channel
channel_fits = (omega arith, omega arith, omega arith, omega arith, omega arith, omega arith, tt)

abbrev asking_session : (client sequence : ℕ) → List Callback → CreateSession
asking_session client sequence callbacks = record { client = client; sequence = sequence; flags = 0; fore = channel; back = channel; program = 0; callbacks = callbacks }

pub session_fits : (client sequence : ℕ) (callbacks : List Callback) → client < 2 ^ 64 → sequence < 2 ^ 32 → callbacks ≡ [] → CreateSessionFits (asking_session client sequence callbacks)
session_fits client sequence callbacks long word none =
    subst (λ (cs : List Callback). CreateSessionFits (asking_session client sequence cs)) (sym none) (record {
      client = long;
      sequence = word;
      flags = omega arith;
      fore = channel_fits;
      back = channel_fits;
      program = omega arith;
      few = omega arith;
      callbacks = All-nil CallbackFits;
    })

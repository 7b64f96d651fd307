-- The numbers of operations (RFC 8881 section 18).
use Rattle.std.specs.Prelude.{ℕ, Bool, nat_le, ◌&&◌}

abbrev pub op_access : ℕ
op_access = 3

abbrev pub op_close : ℕ
op_close = 4

abbrev pub op_commit : ℕ
op_commit = 5

abbrev pub op_create : ℕ
op_create = 6

abbrev pub op_getattr : ℕ
op_getattr = 9

abbrev pub op_getfh : ℕ
op_getfh = 10

abbrev pub op_link : ℕ
op_link = 11

abbrev pub op_lookup : ℕ
op_lookup = 15

abbrev pub op_lookupp : ℕ
op_lookupp = 16

abbrev pub op_nverify : ℕ
op_nverify = 17

abbrev pub op_open : ℕ
op_open = 18

abbrev pub op_putfh : ℕ
op_putfh = 22

abbrev pub op_putrootfh : ℕ
op_putrootfh = 24

abbrev pub op_read : ℕ
op_read = 25

abbrev pub op_readdir : ℕ
op_readdir = 26

abbrev pub op_readlink : ℕ
op_readlink = 27

abbrev pub op_remove : ℕ
op_remove = 28

abbrev pub op_rename : ℕ
op_rename = 29

abbrev pub op_restorefh : ℕ
op_restorefh = 31

abbrev pub op_savefh : ℕ
op_savefh = 32

abbrev pub op_setattr : ℕ
op_setattr = 34

abbrev pub op_verify : ℕ
op_verify = 37

abbrev pub op_write : ℕ
op_write = 38

abbrev pub op_exchange_id : ℕ
op_exchange_id = 42

abbrev pub op_create_session : ℕ
op_create_session = 43

abbrev pub op_destroy_session : ℕ
op_destroy_session = 44

abbrev pub op_sequence : ℕ
op_sequence = 53

abbrev pub op_destroy_clientid : ℕ
op_destroy_clientid = 57

abbrev pub op_reclaim_complete : ℕ
op_reclaim_complete = 58

-- the first and the last number of an operation of minor version 2
abbrev pub op_first : ℕ
op_first = 3

abbrev pub op_last : ℕ
op_last = 71

-- whether minor version 2 has an operation of the number
abbrev pub is_operation : ℕ → Bool
is_operation number = nat_le op_first number && nat_le number op_last

-- in the result of an operation that has no number
abbrev pub op_illegal : ℕ
op_illegal = 10044

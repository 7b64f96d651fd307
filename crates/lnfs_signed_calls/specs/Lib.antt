-- Calls by RPCSEC_GSS as they are written.
pub mod SignedCalls
pub mod Laws

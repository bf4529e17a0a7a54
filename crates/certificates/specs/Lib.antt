-- The far committee and its certificates. Assumes nothing.

pub mod Digests
pub mod Certificates
pub mod Chains
